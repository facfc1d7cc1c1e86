-- The theorems over the tables, and a job whose listing is the longest.
pub mod Examples
pub mod LongestListing
pub mod Converted
