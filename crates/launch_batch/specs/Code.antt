-- Definitions that only the code cites: a batch that was served, how outs are sorted by kind, and the opening of one
-- kind's structures.
pub mod Committing
pub mod Outs
pub mod Rows
