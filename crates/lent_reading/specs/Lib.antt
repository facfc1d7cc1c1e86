-- Reading into lent lists of step records.
pub mod Reading
pub mod inner
