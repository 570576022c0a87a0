pub mod Elements
pub mod Same
pub mod Among
