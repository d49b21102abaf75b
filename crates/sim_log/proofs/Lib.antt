-- Lemmas on the lines of a log.
mod Telling
