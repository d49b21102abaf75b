-- The turns of a play, and its output for an input.
pub mod Turns
pub mod Lines
pub mod Play
pub mod Answers
pub mod Opens
pub mod Reads
pub mod Subjects
pub mod Statuses
pub mod Strict
pub mod Following
pub mod Played
