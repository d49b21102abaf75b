pub mod Scenario
pub mod Limits
pub mod Seeds
pub mod Faults
