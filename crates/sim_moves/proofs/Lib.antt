-- Lemmas on the worlds along a run, on their records, and on walks.
mod Circling
pub mod Placing
pub mod Extending
pub mod Walking
mod Stepping
