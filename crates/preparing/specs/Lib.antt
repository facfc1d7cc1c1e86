-- What try and judge start from.
pub mod inner
