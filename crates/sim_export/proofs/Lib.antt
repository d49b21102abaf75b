-- Lemmas on what is written of a run.
pub mod Telling
pub mod Opening
