-- Jobs while they are built, and why a builder refuses. `Code` holds what only the code cites.
pub mod Drafts
pub mod Refusals
pub mod Codes
pub mod Code
