-- How many threads a batch is worth. `Code` is what only the code cites.
pub mod Threads
pub mod Code
