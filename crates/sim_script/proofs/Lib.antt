-- Lemmas on words, numbers, names and conditions.
pub mod FirstWords
pub mod Numbers
pub mod Positions
pub mod Joining
pub mod Picking
pub mod Dotted
pub mod OneTerm
pub mod Grammar
pub mod Sorts
