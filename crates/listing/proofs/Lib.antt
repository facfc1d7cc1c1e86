-- Laws on the listing: its parts, and how long it is.
pub mod Lengths
pub mod AnyRecord
pub mod Longest
pub mod ListingText
