-- Cited by code and proofs only: how far each walk has come.
pub mod Rows
pub mod Spans
pub mod Calls
pub mod Ticks
pub mod Neighbours
pub mod Maps
pub mod Rooms
