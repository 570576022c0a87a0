-- The keys of forests.
pub mod Parts
