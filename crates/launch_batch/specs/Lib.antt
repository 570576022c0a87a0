-- The rules of a batch over all structures: its calls, its pieces and their places, what a shop contains, and the
-- context of a batch. Only the code cites `Code`.
pub mod Calls
pub mod Contents
pub mod Pieces
pub mod ByStructure
pub mod Places
pub mod Contexts
pub mod Code
