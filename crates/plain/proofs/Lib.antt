pub mod EffectLaws
pub mod EnvironmentLaws
pub mod FaultLaws
pub mod FileLaws
pub mod GridLaws
pub mod ObjectLaws
pub mod SumLaws
