pub mod State
pub mod Answers
pub mod Growth
