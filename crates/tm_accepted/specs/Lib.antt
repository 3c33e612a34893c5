pub mod Sites
pub mod Laid
