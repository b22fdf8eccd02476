pub mod Arms
pub mod Kept
pub mod Terms
pub mod Written
