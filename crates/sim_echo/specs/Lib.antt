pub mod Numbers
pub mod Echo
pub mod EchoRecords
pub mod Seen
