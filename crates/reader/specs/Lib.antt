-- What reading tells, inside and at its end.
pub mod Lists
pub mod Refused
pub mod inner
