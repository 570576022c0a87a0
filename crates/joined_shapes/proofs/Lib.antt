pub mod Leaves
pub mod Joined
pub mod Unshown
pub mod Nesting
pub mod Precedence
pub mod Stepping
