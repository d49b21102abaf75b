-- Definitions for the private functions alone: no crate above cites these files.
pub mod Link
pub mod Lists
pub mod Marks
pub mod Placed
pub mod Slots
pub mod Sparse
pub mod Store
pub mod Taken
pub mod Wheel
