pub mod Copying
pub mod Walking
pub mod Reading
pub mod Writing
pub mod Standing
