pub mod KeptParts
pub mod CoreFits
