-- Operations that have a key each, and their service by ranges of keys.
pub mod Keyed
pub mod Ranges
pub mod Dealing
