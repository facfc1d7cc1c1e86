-- Lists of steps as lists of numbers.
pub mod Flat
