-- The layout of a sheet.
pub mod Words
pub mod Text
pub mod Points
pub mod Parse
pub mod Begins
pub mod inner
