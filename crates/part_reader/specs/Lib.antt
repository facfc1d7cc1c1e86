-- What reading a part tells.
pub mod inner
