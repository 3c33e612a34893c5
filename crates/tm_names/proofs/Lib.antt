pub mod Among
pub mod Forms
pub mod Found
pub mod Scopes
