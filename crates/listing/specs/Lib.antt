-- The listing of judge's answer.
pub mod Listing
