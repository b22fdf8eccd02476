pub mod Alone
pub mod Kept
pub mod Mapped
pub mod Meets
pub mod Sums
pub mod Tests
