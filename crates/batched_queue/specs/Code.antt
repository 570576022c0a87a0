-- What only the code and its proofs cite: the stripes with the invariant, the pieces of a batch, and its replies.
pub mod Stripes
pub mod Pieces
pub mod Replies
