-- A worker's ends after a steal, and the construction of all workers' ends.
pub mod Stealing
pub mod Making
pub mod Dealing
