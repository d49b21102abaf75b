mod Walks
mod Scanning
mod Refusals
