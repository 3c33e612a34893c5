pub mod Counts
pub mod Targets
pub mod Laws
pub mod Pieces
