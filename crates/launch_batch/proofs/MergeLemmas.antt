pub mod Dealing
pub mod ByKind
pub mod InTurn
