-- The rules of runs in threads over the running table: when a worker ends.
pub mod Ends
