-- The operation slice.
pub mod Slicing
