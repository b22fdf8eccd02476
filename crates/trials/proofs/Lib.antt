pub mod TryLaws
pub mod PoolLaws
