-- What the readers of tokens tell.
pub mod inner
