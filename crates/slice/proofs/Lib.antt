-- The slice is the closure that 01 asks for.
pub mod Sweep
pub mod Closure
