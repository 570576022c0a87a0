-- The open blocks of a job that is put together leaf by leaf, and its shape. `Code` holds what only the code cites.
pub mod Blocks
pub mod Codes
pub mod Code
