-- The shelf of editions.
pub mod Shelf
pub mod Put
pub mod Judge
pub mod inner
