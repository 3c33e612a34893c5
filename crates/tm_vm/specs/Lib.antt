pub mod Answers
pub mod AtOnce
pub mod LeafCalls
pub mod Limits
pub mod Nested
pub mod Sums
