-- The steps done as occurrences.
pub mod Occurrences
