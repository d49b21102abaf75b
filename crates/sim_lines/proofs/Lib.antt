-- Lemmas on what a reader has left and a writer holds, and on the input cut at its line ends.
pub mod Known
pub mod Spending
pub mod Counting
pub mod Cuts
pub mod Fronts
pub mod Heads
pub mod Passing
