pub mod Building
pub mod Opened
pub mod Caches
