pub mod Last
pub mod Rows
pub mod CallCounts
pub mod Standing
