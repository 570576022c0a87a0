pub mod Reporting
pub mod MadeRows
