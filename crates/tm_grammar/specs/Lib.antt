pub mod Meanings
pub mod Rule
pub mod Laws
pub mod Growth
pub mod Combinators
pub mod One
