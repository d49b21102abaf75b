pub mod Full
pub mod Sharing
