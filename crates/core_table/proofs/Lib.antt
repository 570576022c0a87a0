pub mod ListLemmas
pub mod PassLemmas
pub mod CloseLemmas
