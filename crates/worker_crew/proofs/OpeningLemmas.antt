pub mod Taking
pub mod Gathering
pub mod Seating
