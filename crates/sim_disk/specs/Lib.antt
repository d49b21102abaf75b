pub mod Disk
pub mod Change
pub mod Light
pub mod Spans
