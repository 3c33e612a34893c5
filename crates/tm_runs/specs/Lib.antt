pub mod Attempts
pub mod Leaves
pub mod Making
pub mod Runs
pub mod Sums
