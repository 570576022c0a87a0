pub mod Meeting
