pub mod EntryLemmas
pub mod TreeLemmas
