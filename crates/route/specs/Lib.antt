-- What a route is and how it fires.
pub mod Steps
pub mod Firing
