pub mod Joins
pub mod Keeps
pub mod Masks
pub mod Merges
pub mod Writes
