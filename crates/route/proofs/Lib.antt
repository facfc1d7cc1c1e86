-- Laws on steps and firing, which proofs of this crate and of those above it cite.
pub mod StepList
pub mod Toggle
pub mod Implied
pub mod IfFires
