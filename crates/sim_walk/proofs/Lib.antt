pub mod Growing
pub mod Moving
pub mod Replying
pub mod Seeking
pub mod Ways
