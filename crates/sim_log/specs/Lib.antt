pub mod Lines
pub mod Range
pub mod Told
