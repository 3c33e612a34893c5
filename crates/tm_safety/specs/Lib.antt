pub mod Fits
pub mod Runs
