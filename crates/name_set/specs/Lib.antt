-- Names as a set.
pub mod Among
pub mod inner
