pub mod ClaimEnds
pub mod Steals
pub mod Allowed
