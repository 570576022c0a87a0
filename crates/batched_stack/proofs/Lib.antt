mod Basics
mod Copies
mod Serial
mod StripeLemmas
mod BeginLemmas
mod ServeLemmas
mod EndLemmas
mod Law
pub mod PieceCount
