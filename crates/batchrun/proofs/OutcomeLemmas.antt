pub mod Asked
pub mod Commands
pub mod Ends
pub mod Headlines
pub mod InMemory
pub mod Made
