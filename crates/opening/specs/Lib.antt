-- A route as a whole: rows 6, 7 and 23.
pub mod Gathered
pub mod Net
pub mod Unwritten
