-- Lemmas on the places of names, the search among them, and the scopes.
pub mod PlaceLemmas
pub mod ScopeLemmas
pub mod Search
pub mod SameNames
pub mod LastLets
pub mod Spellings
