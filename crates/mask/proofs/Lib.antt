-- The laws on bit masks, for any width, and on truth values.
pub mod Laws
pub mod Truth
pub mod Sets
pub mod Count
pub mod Members
pub mod Cut
pub mod Lowest
pub mod FromLowest
pub mod Taken
