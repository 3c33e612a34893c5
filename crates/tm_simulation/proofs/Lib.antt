pub mod Parents
pub mod Advances
pub mod RunAdvances
pub mod Raised
pub mod Gives
pub mod Loads
pub mod Asks
pub mod Evaluates
pub mod Declares
pub mod Includes
pub mod Executes
pub mod Keeps
pub mod Called
pub mod Depths
pub mod Leaves
pub mod Chains
pub mod Loops
pub mod Follow
pub mod Forms
mod Operands
mod Levels
mod BlockTags
mod Arguments
mod Expressions
mod Targets
mod Macros
mod IncludeTags
mod CallTags
mod Rounds
mod Statements
mod Recursion
pub mod Simulation
pub mod Renders
mod Numbered
mod Cached
mod Counts
mod Entries
mod Begins
mod TreeLoops
