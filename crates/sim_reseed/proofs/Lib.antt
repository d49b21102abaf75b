-- Lemmas on tables with another seed, and on inputs that begin with a scenario.
pub mod Values
pub mod Shapes
pub mod Flat
pub mod Heads
pub mod Keys
pub mod Reading
pub mod Seeds
pub mod Printed
pub mod Reseeded
pub mod Accepted
pub mod Refusals
