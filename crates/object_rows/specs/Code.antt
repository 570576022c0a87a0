-- Definitions that only the code cites: a member at a place in rows, the last members of rows, calls dealt by number,
-- and replies put at the places of the calls of one number.
pub mod Members
pub mod Lasts
pub mod Dealt
pub mod Replies
pub mod Opening
pub mod Closing
