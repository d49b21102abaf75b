pub mod Claims
pub mod Best
