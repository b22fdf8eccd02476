pub mod Entries
pub mod Inputs
