-- The specification of a board: association lists, what contracts see of a desk and the effect of each operation, the
-- trace and the invariant, the moments of looks, what each step tells its seat, and which desks and claims belong to
-- which board.
pub mod Entries
pub mod Desks
pub mod Trace
pub mod Rule
pub mod Moments
pub mod Steps
pub mod Boards
