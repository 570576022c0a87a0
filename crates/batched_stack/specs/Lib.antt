-- The rules of the batched stack: its calls, its stripes and their rooms, and its pieces. Only the code cites `Code`.
pub mod Calls
pub mod Stripes
pub mod Lists
pub mod Rooms
pub mod Copies
pub mod Pieces
pub mod Code
