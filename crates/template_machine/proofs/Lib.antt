mod Alone
mod Answered
mod BlockCalls
mod Evaluations
mod Meant
mod Runs
mod Started
mod StateCalls
mod Texts
mod Walked
mod Expected
pub mod CallLists
pub mod StreamRuns
pub mod StreamValues
pub mod Sound
pub mod StreamCalls
