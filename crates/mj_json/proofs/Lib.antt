pub mod Converted
pub mod Ascending
pub mod Refused
pub mod Pairs
