pub mod Nesting
pub mod Levels
pub mod Loops
pub mod Waiting
