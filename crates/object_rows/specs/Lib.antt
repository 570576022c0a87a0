-- The rules of structures of one kind that serve a batch together: the numbers that calls call, the rows of their
-- pieces, the contents of the structures, and the context of a batch. Only the code cites `Code`.
pub mod Numbers
pub mod Rows
pub mod Contents
pub mod Contexts
pub mod Cuts
pub mod Code
