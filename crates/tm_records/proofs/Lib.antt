mod Binding
mod Declared
mod Members
mod NameSets
mod Turns
