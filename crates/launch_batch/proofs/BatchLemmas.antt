pub mod Serial
pub mod Histories
pub mod Beginning
pub mod Ending
pub mod Closing
