pub mod Language
pub mod Stated
pub mod Views
