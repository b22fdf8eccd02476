pub mod Freed
pub mod Named
pub mod Replied
pub mod Turns
