-- The entries and the shape of 2-3 trees, and maps as lists of entries. `Code` holds internal definitions of contracts.
pub mod Code
pub mod Maps
pub mod Nodes
