-- The results of a run, as contracts see them.
pub mod Results
