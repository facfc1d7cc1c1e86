-- The operation judge.
pub mod Judge
pub mod inner
