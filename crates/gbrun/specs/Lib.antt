pub mod CommandLine
pub mod Faults
pub mod Known
pub mod Loaded
pub mod Orders
pub mod Outcomes
pub mod Runs
pub mod Writing
