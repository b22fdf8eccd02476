pub mod AcceptedLaws
pub mod EpochLaws
pub mod ListingLaws
pub mod NumberLaws
pub mod PerformedLaws
pub mod ResultLaws
pub mod StateLaws
