pub mod SeedRuns
pub mod Shrinks
