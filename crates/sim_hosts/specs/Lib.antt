pub mod Numbers
pub mod Reactions
pub mod Bytes
pub mod Hosts
pub mod Waiting
