-- Jobs whose routes are lent lists of step records.
pub mod Lent
