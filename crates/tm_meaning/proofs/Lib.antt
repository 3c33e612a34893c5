pub mod Ends
pub mod LookUp
pub mod Left
pub mod Loaded
