pub mod Cutting
pub mod Numbers
pub mod Parts
pub mod Context
