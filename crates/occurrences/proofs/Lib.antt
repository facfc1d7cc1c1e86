-- Laws on occurrences.
pub mod Union
pub mod SharedPlaces
pub mod Narrowed
pub mod DoneOccurrences
