-- The candidates of the search, and the first fit list.
pub mod Placing
pub mod FirstFit
pub mod inner
