-- Laws on reading a whole sheet.
pub mod WholeSheet
pub mod StepsOut
pub mod JobOfLists
