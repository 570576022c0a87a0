pub mod Occurrences
pub mod Laws
pub mod Descents
pub mod BySeries
pub mod Climbs
