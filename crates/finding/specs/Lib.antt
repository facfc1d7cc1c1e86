-- The done names found in both routes.
pub mod Comparisons
pub mod inner
