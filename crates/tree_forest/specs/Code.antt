-- Internal definitions of contracts: merges of trees, and the place of a key in a row.
pub mod Merges
pub mod Places
