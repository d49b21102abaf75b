mod Kept
mod Failing
mod Choices
mod Trying
