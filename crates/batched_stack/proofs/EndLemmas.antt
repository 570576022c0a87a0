pub mod Final
pub mod Tops
pub mod Replies
