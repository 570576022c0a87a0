pub mod OneService
pub mod AnyOrder
