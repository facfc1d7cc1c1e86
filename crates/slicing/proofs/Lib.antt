-- Laws on the operation slice.
pub mod SliceRows
