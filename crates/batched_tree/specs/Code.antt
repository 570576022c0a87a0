-- Definitions that only the code cites: the calls on each side of a key, pieces as they are cut off, and what the end
-- makes of the outs.
pub mod Sides
pub mod Begin
pub mod End
