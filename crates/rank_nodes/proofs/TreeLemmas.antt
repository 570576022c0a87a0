pub mod Depths
pub mod Inserting
pub mod Removing
pub mod Sides
pub mod Trees
