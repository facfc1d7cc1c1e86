-- The operation try.
pub mod Try
pub mod inner
