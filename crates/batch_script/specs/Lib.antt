-- What a script is, what its reader answers, what a program over scripts prints. `Code` is what only the code cites.
pub mod Scripts
pub mod Answers
pub mod Texts
pub mod Words
pub mod Lines
pub mod Outcomes
pub mod Code
