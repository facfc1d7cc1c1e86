-- Laws on rows.
pub mod Rows
pub mod Answered
pub mod EachLine
pub mod Sheet
