-- A world at a place of a log: its records, and the work of moving it.
pub mod Places
pub mod Walk
pub mod Works
pub mod Circle
