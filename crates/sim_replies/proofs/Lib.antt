-- Lemmas on the events of a trace.
pub mod Plain
pub mod Shown
