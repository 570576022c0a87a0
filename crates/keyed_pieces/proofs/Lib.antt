pub mod Sides
pub mod Halves
pub mod Service
pub mod DealLemmas
pub mod Apart
pub mod Cuts
