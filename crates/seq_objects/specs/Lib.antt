-- The serial objects, the calls of a batch and their order, the work of a leaf, and the text of operations and replies.
-- `Code` is internal to the crate's code and proofs.
pub mod Verbs
pub mod Parts
pub mod Objects
pub mod BatchOrder
pub mod Batches
pub mod Code
pub mod Kept
pub mod Orders
pub mod Pairs
pub mod Pieces
pub mod Serial
pub mod Spin
pub mod Stores
pub mod Words
