-- Laws on names as a set, which proofs of this crate and of those above it cite.
pub mod Among
pub mod DigitHints
