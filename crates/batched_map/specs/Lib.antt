-- The rules of the map: what one thread would have, the calls of a batch, and any number of batches. `Code` is what
-- only the code cites.
pub mod Maps
pub mod Batches
pub mod Code
