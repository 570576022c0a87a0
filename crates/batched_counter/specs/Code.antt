-- Definitions that only the code cites: the results of the end's loops.
pub mod End
