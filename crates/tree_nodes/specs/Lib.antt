-- The keys and the shape of 2-3 trees. `Code` holds internal definitions of contracts.
pub mod Code
pub mod Nodes
