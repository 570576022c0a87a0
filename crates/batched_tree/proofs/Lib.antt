mod BeginLemmas
mod EndLemmas
mod Law
pub mod PieceCount
mod ServeLemmas
