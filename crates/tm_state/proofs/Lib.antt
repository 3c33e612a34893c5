pub mod Blocks
mod Answered
pub mod Formatted
pub mod Stored
pub mod Included
pub mod BoundAgain
