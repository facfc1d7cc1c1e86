-- Laws on the lines of the tables, in the parts that are written, and on the loops over them.
pub mod TableLine
pub mod EachLine
