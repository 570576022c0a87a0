-- The rules of the batched counter: its calls, its pieces, and sums. Only the code cites `Code`.
pub mod Sums
pub mod Calls
pub mod Pieces
pub mod Code
