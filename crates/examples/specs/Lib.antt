-- The tables of 01's examples, of 02's long names, of its cloth marks, of its start lines, of its readings that nobody
-- writes and of its branches; and of sheets converted.
pub mod Table
pub mod LongNames
pub mod Cuts
pub mod Starts
pub mod Unwritten
pub mod Converted
pub mod Branches
