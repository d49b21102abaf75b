-- Lemmas on what is found, and on what is written of it.
mod Finds
mod Ends
