-- The kept events of a run, and the shared parts in which they are kept.
pub mod Entry
pub mod Listed
pub mod Log
pub mod Segments
pub mod inside
