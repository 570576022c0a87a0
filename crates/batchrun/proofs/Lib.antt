pub mod CommandLemmas
pub mod OutcomeLemmas
pub mod RefusalLines
