-- How a line is written from its end to its front.
pub mod Ending
