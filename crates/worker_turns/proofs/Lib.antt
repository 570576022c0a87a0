pub mod PieceLemmas
pub mod HoldLemmas
pub mod LaunchLemmas
pub mod CarryLemmas
pub mod MeaningLemmas
