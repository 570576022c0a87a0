pub mod Bags
pub mod CallOrder
pub mod Classes
pub mod Elements
mod Kept
pub mod Keys
pub mod Apart
pub mod Filters
pub mod Meets
mod Members
pub mod Numbers
pub mod Verbs
pub mod Parts
