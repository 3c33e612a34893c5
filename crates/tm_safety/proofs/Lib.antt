pub mod Stacked
pub mod Comes
pub mod Fine
pub mod Effects
pub mod Never
pub mod Ends
