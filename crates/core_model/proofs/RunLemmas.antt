pub mod Facts
pub mod Turns
pub mod OneBatch
pub mod OneRun
pub mod Rounds
pub mod Existence
pub mod LiveRuns
pub mod Joined
