pub mod Called
pub mod Chains
pub mod Kept
pub mod Reached
pub mod Uncached
