pub mod ObjectLemmas
pub mod PlanLemmas
pub mod BuilderLemmas
pub mod Depths
