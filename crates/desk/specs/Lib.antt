pub mod Desks
pub mod Ends
pub mod Orders
pub mod Works
