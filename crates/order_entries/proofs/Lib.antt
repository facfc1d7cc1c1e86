-- Rows 16 to 18, entry by entry.
pub mod Row16
pub mod Row17
pub mod Entry
pub mod ByRows
