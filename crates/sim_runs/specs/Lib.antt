pub mod Branch
pub mod Watches
pub mod Runs
pub mod Tapes
pub mod OnTape
pub mod Reach
pub mod Works
pub mod Running
