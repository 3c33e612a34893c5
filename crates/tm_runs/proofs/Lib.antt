pub mod Counted
pub mod Leaves
pub mod Left
pub mod Paid
pub mod Texts
pub mod Used
pub mod Defined
