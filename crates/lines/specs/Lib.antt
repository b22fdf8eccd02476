pub mod Gaps
pub mod Joining
pub mod Meaning
