-- How the code keeps open blocks.
pub mod Steps
pub mod Joining
