pub mod Distinct
pub mod Statements
pub mod Template
