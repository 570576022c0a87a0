pub mod Entries
pub mod Orders
pub mod Cuts
pub mod Closings
pub mod Occurrences
