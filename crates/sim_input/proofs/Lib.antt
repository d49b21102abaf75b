pub mod Reading
mod Scripts
mod Joined
mod Spelled
