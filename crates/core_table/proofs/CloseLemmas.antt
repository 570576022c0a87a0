pub mod Closes
pub mod LastRows
pub mod Reported
pub mod SlotsBelow
