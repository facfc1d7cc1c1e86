-- Laws on what emitters write.
pub mod Chains
pub mod Decimals
pub mod Over
pub mod Loops
