pub mod PlaceLemmas
pub mod ListLemmas
