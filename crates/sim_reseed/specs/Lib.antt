-- The scenario of a numbered run, and the inputs that begin with a scenario.
pub mod Shape
pub mod Numbered
pub mod Input
pub mod Refused
