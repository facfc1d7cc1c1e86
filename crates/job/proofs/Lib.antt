-- Laws on the rows of a job's lines.
pub mod StepRow
pub mod StepRows
pub mod Rows
pub mod LongLists
pub mod UniqueNames
pub mod AloneRows
