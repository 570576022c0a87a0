pub mod Posting
pub mod Working
pub mod Looks
pub mod Collecting
pub mod Met
pub mod Handing
pub mod Served
