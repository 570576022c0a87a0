pub mod ForestLemmas
