-- Which occurrences must stay in order: precedence, its table, orders.
pub mod Precedence
pub mod Order
pub mod Table
pub mod inner
