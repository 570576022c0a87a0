-- What only the code and its proofs cite: no public contract speaks of it.
pub mod Cursors
pub mod Fronts
pub mod Machine
pub mod OpenBlocks
pub mod Reached
pub mod Scanners
pub mod Shown
pub mod Steps
