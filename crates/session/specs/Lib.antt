pub mod Deferred
pub mod Ends
pub mod Lending
pub mod Listed
pub mod Performed
