-- What the tests cite.
pub mod Tellers
