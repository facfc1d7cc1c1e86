-- A job: two routes and a done list and the rows on its lines.
pub mod Job
pub mod Lines
pub mod Alone
