pub mod AtOnce
pub mod Tickets
