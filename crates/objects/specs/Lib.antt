pub mod Kept
pub mod Refusals
pub mod Tables
pub mod Values
pub mod Waiting
