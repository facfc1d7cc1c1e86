-- What a refusal is.
pub mod Rows
pub mod Refusal
