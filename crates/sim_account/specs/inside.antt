-- Definitions for the private functions alone: no crate above cites this file.
pub mod Ledger
