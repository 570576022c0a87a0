pub mod BeginLemmas
pub mod EndLemmas
mod Law
pub mod PieceCount
