pub mod Nesting
pub mod Seen
pub mod Loops
pub mod Names
pub mod Calls
