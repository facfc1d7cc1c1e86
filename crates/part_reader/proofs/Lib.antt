-- Laws on reading from line to line.
pub mod PrefixStep
pub mod StartLines
pub mod HeadLines
pub mod StepLines
pub mod DoneLines
