-- What an emitter of a sheet's lines writes.
pub mod inner
