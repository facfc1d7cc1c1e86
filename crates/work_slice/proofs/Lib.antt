-- Laws on the work slice: cleared from the front, and its table of sets.
pub mod Cleared
pub mod Sets
