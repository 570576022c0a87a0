pub mod ActLemmas
pub mod BookLemmas
pub mod Counters
pub mod Few
pub mod NameLemmas
pub mod TallyLemmas
