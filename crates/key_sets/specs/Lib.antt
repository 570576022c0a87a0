-- Sets of keys, cuts of a set at a key, and the groups of a batch's keys.
pub mod Groups
pub mod Keys
pub mod Splits
