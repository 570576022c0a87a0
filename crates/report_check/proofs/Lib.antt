pub mod Parts
pub mod Entries
pub mod RawReports
pub mod OneFlaw
