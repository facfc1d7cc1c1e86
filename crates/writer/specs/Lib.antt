-- What writing a job gives.
pub mod Written
pub mod Writes
