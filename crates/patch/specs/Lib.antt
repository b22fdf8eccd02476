pub mod Edits
pub mod Sums
