-- Laws on a route as a whole.
pub mod NetRows
pub mod EachStep
pub mod OpenRows
