-- Lemmas on scripts that are played.
pub mod Shown
pub mod OneAnswer
pub mod Runs
pub mod Readings
pub mod Whole
pub mod Front
pub mod Places
pub mod Judging
pub mod Follows
mod FirstRun
mod Fronts
