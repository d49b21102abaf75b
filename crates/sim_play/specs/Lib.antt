-- The output of a play if memory suffices, and how a strict play ends.
pub mod Plain
pub mod Halting
