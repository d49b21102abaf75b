-- Definitions for the private parts alone: no crate above cites these files.
pub mod Stored
