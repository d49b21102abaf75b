pub mod Planned
pub mod Walking
pub mod Faults
