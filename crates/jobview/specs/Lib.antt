-- What the program promises, with what it takes from the crates below. `Code` is what only the code cites.
pub use Rattle.bt_io.specs.Bytes
pub use Rattle.bt_io.specs.Causes
pub use Rattle.program_io.specs.Reading
pub use Rattle.job_lang.specs.Language
pub use Rattle.job_writer.specs.Canonical
pub use Rattle.leaf_places.specs.Places
pub use Rattle.leaf_places.specs.Rows
pub mod Words
pub mod Lines
pub mod Outcomes
pub mod Code
