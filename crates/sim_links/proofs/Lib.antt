pub mod Copies
pub mod Places
pub mod RoundTrips
pub mod Slots
