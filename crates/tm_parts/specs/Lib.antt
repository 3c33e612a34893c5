pub mod Outgoing
pub mod Halts
pub mod Operate
