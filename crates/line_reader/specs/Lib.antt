-- What reading one line tells, and its rows.
pub mod inner
