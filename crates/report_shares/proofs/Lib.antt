pub mod Edges
pub mod CallerSets
pub mod Lanes
pub mod Totals
pub mod Apart
