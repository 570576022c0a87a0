-- The specification of the turns: the effect of each step, and the path for each answer. `Meanings` defines what the
-- laws conclude from an answer, and `Code` has what only contracts of private functions use.
pub mod Pieces
pub mod Stops
pub mod Holds
pub mod Launches
pub mod Callings
pub mod Trapped
pub mod Free
pub mod Meanings
pub mod Code
