-- Shapes, jobs, sources, named objects, plans, the precedence of leaves and totals over a job's operations. `Code`
-- holds what only the code cites.
pub mod Precedence
pub mod Sources
pub mod Objects
pub mod Jobs
pub mod TreeEncoding
pub mod Depth
pub mod Plans
pub mod PlanOf
pub mod Preorder
pub mod Totals
pub mod Phases
pub mod Code
