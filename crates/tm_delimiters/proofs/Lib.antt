pub mod Places
pub mod Begins
pub mod Indents
pub mod Ends
