-- How the contracts of programs over a shelf and two sinks describe their ends, with the notions of `bt_io` they use.
pub use Rattle.bt_io.specs.Bytes
pub use Rattle.bt_io.specs.Causes
pub mod Reading
pub mod Lines
pub mod Ends
