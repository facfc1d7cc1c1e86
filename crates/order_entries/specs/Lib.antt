-- The entries of an order.
pub mod Entries
pub mod inner
