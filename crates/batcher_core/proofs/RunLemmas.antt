pub mod Taken
pub mod CoreRounds
pub mod LiveRounds
pub mod LiveEnds
