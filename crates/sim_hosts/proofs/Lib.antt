pub mod ServerSteps
pub mod FirstWaiting
mod Slots
