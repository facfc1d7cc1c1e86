-- The table holds what it says, worked out by variable and by place; lists that hold each member of a set once.
pub mod InTurn
pub mod Filled
pub mod Rows
pub mod Changing
pub mod ByItem
pub mod Putters
pub mod RowByItem
pub mod Times
pub mod EachOnce
