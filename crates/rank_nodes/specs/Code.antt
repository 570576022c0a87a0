-- Internal definitions of contracts: results and intermediate states of insertions, removals and cuts.
pub mod Insertions
pub mod Removals
pub mod Splits
