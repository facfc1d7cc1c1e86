-- That the code shows what the answer has.
pub mod Filling
pub mod Padded
pub mod AfterRows
pub mod LastWriters
pub mod AnswerParts
