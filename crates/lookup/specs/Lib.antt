-- Look-up by name.
pub mod Position
pub mod Around
pub mod Follows
