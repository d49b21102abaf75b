mod Plans
mod Lengths
pub mod Runs
