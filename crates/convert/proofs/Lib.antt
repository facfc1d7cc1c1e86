-- Why what convert wrote lies in its buffer.
pub mod Fits
