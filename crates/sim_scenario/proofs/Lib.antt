-- Lemmas of the reader, and texts that the definition reads.
pub mod Arrays
pub mod Clients
pub mod Given
pub mod Joining
pub mod Keys
pub mod Limits
pub mod Linking
pub mod Numbering
pub mod Operations
mod Rows
pub mod Saying
pub mod Seeds
pub mod Servers
