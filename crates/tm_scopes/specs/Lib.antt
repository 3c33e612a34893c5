pub mod Closures
pub mod Found
pub mod LoopItems
pub mod Known
pub mod Marks
pub mod Pairs
pub mod Places
pub mod Scopes
