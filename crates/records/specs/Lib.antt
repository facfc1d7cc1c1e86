-- Records in lent lists.
pub mod Overlaid
