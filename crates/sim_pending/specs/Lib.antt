pub mod Occurrence
pub mod Fate
pub mod Recall
