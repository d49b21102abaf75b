-- Lemmas on strict plays, and on plays in which no command wants memory.
mod Plainly
mod StrictRuns
mod WholeStrictly
