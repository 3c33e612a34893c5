pub mod Constants
pub mod Grammar
pub mod Levels
pub mod Looks
pub mod Parses
pub mod Tokens
pub mod Waiting
