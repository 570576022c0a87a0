-- The specification of a crew: the view of a worker in contracts, when it is free or trapped, and the workers' initial
-- states.
pub mod Words
pub mod Passes
pub mod Workers
pub mod Opening
