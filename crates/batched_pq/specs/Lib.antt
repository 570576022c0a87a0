-- The rules of the batched queue: its calls, its shards and its pieces. Only the code cites `Code`.
pub mod Bags
pub mod Shards
pub mod Calls
pub mod Pieces
pub mod Code
