-- Promises between inner functions. No contract of an open operation and no theorem rests on what they mean.
pub mod ByItem
