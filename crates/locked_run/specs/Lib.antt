-- The rules of a run under the lock: the state behind the lock and its invariant, what a look does and answers, and the
-- points of the run. `Code` holds what only the code cites.
pub mod Runs
pub mod Looks
pub mod Points
pub mod Code
