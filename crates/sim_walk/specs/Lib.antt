pub mod Accounts
pub mod Growth
pub mod Walks
