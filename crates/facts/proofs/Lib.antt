-- Laws on a sheet's rows and facts.
pub mod LineEnds
pub mod Members
pub mod Masks
pub mod Ties
pub mod ReadRecords
pub mod PartText
pub mod Widths
pub mod RowOne
pub mod InAnother
pub mod Wider
pub mod StartsPutIn
pub mod RowsFold
pub mod PassingLines
pub mod DoneNames
