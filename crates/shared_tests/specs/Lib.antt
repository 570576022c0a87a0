-- The serial objects of the structures that the tests share.
pub mod Tallies
