-- Laws on the readers of tokens.
pub mod Bytes
pub mod NumberBytes
pub mod TextBytes
pub mod ListBytes
