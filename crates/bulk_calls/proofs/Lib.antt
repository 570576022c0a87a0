pub mod SetLaws
pub mod GroupLemmas
pub mod CallLemmas
pub mod RangeLemmas
pub mod OrderLemmas
pub mod BatchLemmas
