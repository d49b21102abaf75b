pub mod Scribe
