pub mod Fronts
pub mod Heads
pub mod Listing
pub mod Said
pub mod Usual
pub mod Written
