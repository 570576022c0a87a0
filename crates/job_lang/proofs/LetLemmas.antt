pub mod Lists
pub mod Orders
pub mod Placed
pub mod Known
pub mod Meant
