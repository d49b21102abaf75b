pub mod Faults
pub mod Hosts
pub mod Limits
pub mod Links
pub mod Parts
pub mod Scenario
pub mod Seen
