-- What only the code and its proofs cite: the text of each part of the picture.
pub mod Texts
