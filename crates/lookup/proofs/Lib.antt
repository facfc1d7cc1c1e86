-- Laws on look-up by name, which proofs of this crate and of those above it cite.
pub mod Position
pub mod Around
pub mod Unique
pub mod Totals
