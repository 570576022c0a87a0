mod Words
pub mod ListLemmas
mod MergeLemmas
mod PieceLemmas
pub mod BatchLemmas
mod LawLemmas
