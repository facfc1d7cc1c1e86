-- Reading into lent lists: what it answers.
pub mod Counting
