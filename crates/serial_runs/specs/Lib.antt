-- The serial runs of a job's calls.
pub mod SerialRuns
