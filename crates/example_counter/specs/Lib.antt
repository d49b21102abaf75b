pub mod Table
pub mod Records
