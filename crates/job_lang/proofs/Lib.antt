pub mod EachOf
pub mod ExpandLemmas
pub mod LetLemmas
pub mod LimitLemmas
pub mod ReaderLemmas
pub mod Weights
pub mod Spellings
