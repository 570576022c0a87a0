pub mod Batches
pub mod Queues
pub mod Sets
pub mod Stacks
