-- Definitions for the private functions alone: no crate above cites these files.
pub mod Index
pub mod Sound
pub mod Held
pub mod Packed
pub mod Giving
pub mod Trail
pub mod Rest
pub mod DiskWork
pub mod Purge
pub mod Crashing
