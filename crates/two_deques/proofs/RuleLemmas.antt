-- Each step on a deque keeps its rule.
pub mod Sums
pub mod Owners
pub mod Steps
