pub mod Placing
pub mod Outs
pub mod Ascending
pub mod Rows
pub mod Counting
