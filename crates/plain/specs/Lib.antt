pub mod Acts
pub mod Environments
pub mod Evaluated
pub mod Files
