pub mod Listed
pub mod Chain
pub mod Hashes
pub mod Alone
