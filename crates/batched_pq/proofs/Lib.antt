mod Bags
mod Serial
mod HeapLemmas
mod BeginLemmas
mod ServeLemmas
mod EndLemmas
mod Law
pub mod PieceCount
