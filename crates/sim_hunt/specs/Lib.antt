pub mod Answers
pub mod Hunts
pub mod Outcomes
