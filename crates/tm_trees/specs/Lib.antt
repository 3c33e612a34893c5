pub mod Instructions
pub mod Trees
