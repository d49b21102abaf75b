pub mod Choices
pub mod Shrunk
pub mod Passing
