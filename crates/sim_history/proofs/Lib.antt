-- Lemmas on entries in segments, and on shared values.
pub mod Joined
pub mod Entries
mod SharedLists
