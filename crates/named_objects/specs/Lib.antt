-- Objects with names, as contracts see them.
pub mod Objects
