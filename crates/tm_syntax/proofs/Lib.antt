pub mod Named
pub mod Forms
pub mod Standing
pub mod Dropping
pub mod Replaced
