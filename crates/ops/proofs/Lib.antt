-- Laws on the operations on a sheet's bytes.
pub mod ListingLength
pub mod Prints
pub mod SheetTry
