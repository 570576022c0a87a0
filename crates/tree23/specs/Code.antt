-- Internal definitions of contracts: the states of a cut.
pub mod Cuts
