pub mod Boards
pub mod Crews
pub mod Lefts
pub mod Outcomes
