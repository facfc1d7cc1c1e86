-- The work slice.
pub mod WorkSlice
pub mod inner
