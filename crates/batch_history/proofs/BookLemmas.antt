pub mod EntryLists
pub mod Books
pub mod Search
