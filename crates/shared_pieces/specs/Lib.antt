-- The specification of batches that are served in pieces.
pub mod Batches
pub mod Rows
