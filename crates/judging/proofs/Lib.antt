-- That the code gives what the specs say.
pub mod JudgeRows
pub mod JudgeOperation
pub mod LongLists
