-- Laws on what writing gives.
pub mod Inverses
pub mod Bound
pub mod Longest
pub mod LongLists
pub mod RoundTrips
pub mod WholeText
