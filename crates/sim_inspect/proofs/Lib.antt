pub mod Branches
pub mod Spans
