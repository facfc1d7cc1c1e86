-- What the listing shows of a list of occurrences.
pub mod Answer
pub mod inner
