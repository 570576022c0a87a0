mod Digits
mod Fields
mod Letters
mod Marks
mod Tables
mod Growing
mod Operations
mod Replies
mod Heads
mod CallLines
pub mod Rows
mod Calls
pub mod Books
mod Groups
mod Reports
mod Jobs
mod Noting
mod Alike
mod OneReport
mod Stopping
mod OneStop
