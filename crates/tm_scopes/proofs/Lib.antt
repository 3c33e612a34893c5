pub mod Known
pub mod Ordered
pub mod Places
pub mod Enclosed
pub mod Framed
pub mod Marks
mod Exported
