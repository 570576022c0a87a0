-- What only the code and its proofs cite: how a plan is built, the tree that is its value, and how jobs are kept.
pub mod PlanBuilder
pub mod PlanView
pub mod SourcesView
