-- What writing a text into the out slice answers and leaves.
pub mod OutSlice
