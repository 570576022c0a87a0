-- The specification of words that threads count.
pub mod Words
pub mod Counts
pub mod Parts
