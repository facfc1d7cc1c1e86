-- That a listing from the shelf has room.
pub mod ListingLength
