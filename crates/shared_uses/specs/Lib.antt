-- What the uses of shared structures come to.
pub mod Drawing
pub mod Adding
pub mod Inserting
pub mod Piping
