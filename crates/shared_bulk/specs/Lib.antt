-- The specification of a shared set that serves a batch in pieces.
pub mod Batches
