-- Laws on lists of steps as numbers.
pub mod FlatSteps
pub mod InTurn
pub mod LaidSteps
