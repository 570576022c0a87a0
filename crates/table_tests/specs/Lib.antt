-- What the tests of the table say of its passes.
pub mod Tables
pub mod Launches
