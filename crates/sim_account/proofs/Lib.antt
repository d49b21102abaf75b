pub mod Accounts
pub mod Kept
pub mod Ledgers
