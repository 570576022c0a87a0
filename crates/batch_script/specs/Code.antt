-- What only the code and its proofs cite: the states of a reading, and the steps of a run.
pub mod Lines
pub mod Reading
pub mod Running
