-- Laws on the lines of the listing, in the parts that are written.
pub mod Line
