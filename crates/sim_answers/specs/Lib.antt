-- The lines that answer turns.
pub mod Spacing
pub mod Trace
pub mod Lines
