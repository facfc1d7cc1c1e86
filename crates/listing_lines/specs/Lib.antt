-- The lines of the listing.
pub mod Lines
