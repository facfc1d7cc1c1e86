-- What an emitter does, and the texts of numbers.
pub mod Emit
pub mod Numbers
