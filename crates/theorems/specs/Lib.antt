-- Replay of values, demand 3, and what is said of a sheet's bytes.
pub mod Values
pub mod Demand3
pub mod Given
pub mod Sheets
pub mod Shows
pub mod RoundTrip
pub mod Editions
pub mod BetweenEditions
pub mod Unwritten
pub mod Holders
