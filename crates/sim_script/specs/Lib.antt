-- What a line of a script asks: its words, the conditions that they write, and the commands.
pub mod Words
pub mod Conditions
pub mod Asks
pub mod Parsed
pub mod Script
pub mod Mistakes
pub mod Sorts
