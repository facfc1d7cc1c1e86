-- The limits of a version of the layout.
pub mod Limits
