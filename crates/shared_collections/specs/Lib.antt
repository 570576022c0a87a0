-- The specification of collections that threads share. `Code` is what only the code cites.
pub mod Fifos
pub mod Maps
pub mod Bulks
pub mod Code
