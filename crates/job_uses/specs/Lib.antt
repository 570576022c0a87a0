-- The jobs of the programs, and why a program builds none. `Code` holds what only the code cites.
pub mod Adds
pub mod Chunks
pub mod Interest
pub mod Sums
pub mod Totals
pub mod Refusals
pub mod Code
