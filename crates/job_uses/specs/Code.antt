-- Drafts to which the programs add leaves.
pub mod Growth
