pub mod Replies
pub mod Serving
pub mod FifoServing
pub mod MapServing
pub mod BulkServing
