pub mod Account
pub mod inside
