-- Which occurrences matter.
pub mod Slice
