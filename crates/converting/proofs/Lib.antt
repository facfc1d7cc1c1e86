-- Laws on converting a sheet.
pub mod Beyond
pub mod BothNets
pub mod Told
pub mod Said
pub mod Raised
pub mod Lowered
pub mod Rows
pub mod ThereAndBack
pub mod SecondLine
