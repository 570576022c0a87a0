pub mod TakenCalls
pub mod Replied
pub mod Made
pub mod Existence
