pub mod Search
pub mod Scanning
