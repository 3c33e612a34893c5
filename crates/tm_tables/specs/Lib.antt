pub mod Fuel
pub mod Stated
