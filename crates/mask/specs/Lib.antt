-- What a bit mask means.
pub mod Mask
pub mod Members
