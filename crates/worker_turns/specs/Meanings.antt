pub mod Gains
pub mod Trapped
pub mod Free
pub mod Launches
pub mod Stays
pub mod Events
