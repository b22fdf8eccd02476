pub mod Marked
pub mod Terms
