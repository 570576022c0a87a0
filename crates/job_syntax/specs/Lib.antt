-- The syntax of the job language, from the bytes of a text to its items or its first fault of reading. `Code` holds
-- what only the code cites.
pub mod Text
pub mod Words
pub mod Arguments
pub mod Grammar
pub mod Visibility
pub mod Faults
pub mod Blocks
pub mod ItemsOf
pub mod Lines
pub mod Views
pub mod Code
