pub mod PassKept
pub mod Refused
pub mod NewPass
pub mod Ticks
pub mod NoAct
pub mod DueTasks
