-- The rules of the set: what one thread would have, the calls of a batch, their single keys, and the pieces that these are
-- served in. `Code` is what only the code cites.
pub mod Views
pub mod Bulk
pub mod Batches
pub mod Singles
pub mod Pieces
pub mod Code
