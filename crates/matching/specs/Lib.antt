-- How the new route matches a job: straight and fit orders, rows 10 to 12.
pub mod Fit
pub mod KeptRows
pub mod Straight
pub mod inner
