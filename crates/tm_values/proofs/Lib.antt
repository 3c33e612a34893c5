pub mod Lists
pub mod Comparisons
pub mod Sizes
pub mod Writables
pub mod Maps
pub mod Entries
pub mod Asked
