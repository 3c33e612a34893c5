pub mod Defaults
pub mod Globals
pub mod Sources
pub mod Templates
