-- Laws on the run: its steps, its lines, what stands after row 9.
pub mod Performed
pub mod RunLine
pub mod BegunCases
pub mod AfterRun
pub mod FiredDone
pub mod DoneNames
pub mod LongLists
