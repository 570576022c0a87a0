pub mod Keyed
pub mod Located
pub mod Serial
pub mod OneBatch
pub mod Pieces
pub mod Service
pub mod Cutting
