pub mod OutcomeLemmas
pub mod RefusalLines
