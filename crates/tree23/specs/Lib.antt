-- Rows of trees. `Code` holds internal definitions of contracts, for this crate and the forest above.
pub mod Code
pub mod SideBySide
