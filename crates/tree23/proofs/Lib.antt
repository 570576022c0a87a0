pub mod SideBySideLemmas
