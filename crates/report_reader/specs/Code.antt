-- Definitions used only by the code and its proofs: what each step of the reader reads.
pub mod Fields
pub mod Objects
pub mod Operations
pub mod Replies
pub mod Lines
pub mod Groups
pub mod Reading
