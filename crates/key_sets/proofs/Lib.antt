pub mod Filters
pub mod GroupLemmas
pub mod KeyLemmas
