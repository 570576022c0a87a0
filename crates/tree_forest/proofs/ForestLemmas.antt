pub mod Compacting
pub mod KeySets
pub mod Passing
pub mod ForestKeys
pub mod Reversing
