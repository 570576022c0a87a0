-- The specification of structures that threads share.
pub mod Counters
pub mod Stacks
pub mod Sets
pub mod Queues
pub mod Failures
pub mod Code
