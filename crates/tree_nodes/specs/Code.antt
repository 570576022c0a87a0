-- Internal definitions of contracts: results and intermediate states of insertions and removals.
pub mod Insertions
pub mod Removals
