-- The flaws of reports and of texts, and the jobs whose lawful reports are raw.
pub mod Flaws
pub mod SmallJobs
