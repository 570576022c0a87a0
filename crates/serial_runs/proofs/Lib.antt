pub mod Elements
pub mod SerialOrder
pub mod Values
