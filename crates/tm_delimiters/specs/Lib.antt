pub mod Front
pub mod Delimiters
pub mod Syntax
pub mod Whitespace
pub mod Trimming
pub mod Starts
pub mod Views
