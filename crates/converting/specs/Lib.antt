-- What converting a sheet means.
pub mod Nets
pub mod Beyond
pub mod Up
pub mod Down
pub mod Either
