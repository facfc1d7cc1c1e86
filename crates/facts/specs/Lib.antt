-- The facts of a sheet: the rows on its lines, its routes and its done list.
pub mod Forms
pub mod Facts
pub mod JobPart
pub mod SheetRows
pub mod LinesOf
pub mod Names
pub mod Marks
pub mod Starts
