-- That the code gives what the specs say.
pub mod AllOf
pub mod KeptLimit
pub mod KeptRows
pub mod KeptWrong
pub mod Matched
pub mod SameMask
pub mod SameStep
pub mod StraightEnd
