pub mod Laid
pub mod Fit
pub mod Spans
