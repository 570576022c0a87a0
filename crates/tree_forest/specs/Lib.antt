-- The model of a forest, and its trees. `Code` holds internal definitions of contracts.
pub mod Code
pub mod Forests
pub mod Views
