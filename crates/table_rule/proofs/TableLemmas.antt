pub mod Words
pub mod Traces
pub mod Misses
pub mod Facts
pub mod Moved
pub mod Through
pub mod OneState
pub mod Untouched
