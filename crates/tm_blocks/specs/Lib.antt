pub mod BlockNames
pub mod Layers
pub mod Lists
