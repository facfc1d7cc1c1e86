-- That the code gives what the specs say.
pub mod AfterRow12
pub mod InTurn
pub mod TryRows
