-- Definitions that only the code cites: the heap's nodes and runs, and the replies to takes.
pub mod Bags
pub mod Nodes
pub mod Runs
pub mod Leftist
pub mod End
