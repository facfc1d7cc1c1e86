-- Laws on a text in the out slice.
pub mod TextInSlice
pub mod PastRows
