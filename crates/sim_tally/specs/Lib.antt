-- The work that the meter `Tally` counts.
pub mod Tally
