pub mod Events
pub mod Condition
