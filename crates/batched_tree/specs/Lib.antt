-- The rules of the batched set: its calls, its pieces and their replies. Only the code cites `Code`.
pub mod Calls
pub mod Code
pub mod Pieces
pub mod Replies
