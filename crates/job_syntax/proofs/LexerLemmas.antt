pub mod Chunks
pub mod Fewer
pub mod KindWords
pub mod Numbers
pub mod Skips
