-- Laws on what try and judge start from.
pub mod Preparation
