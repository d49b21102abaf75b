-- Lemmas on inputs that repeat a run.
mod Rereading
