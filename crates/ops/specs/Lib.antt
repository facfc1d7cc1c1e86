-- The operations on a sheet's bytes.
pub mod Print
pub mod SheetTry
