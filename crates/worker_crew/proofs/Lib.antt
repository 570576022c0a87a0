pub mod FlagLemmas
pub mod OpeningLemmas
