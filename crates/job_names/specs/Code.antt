-- What the code and its proofs cite. Public contracts speak of it by the view of the scopes and by `IsKept` alone.
pub mod Places
pub mod Kept
