pub mod Added
pub mod Sources
pub mod Lists
pub mod Rendered
