pub mod EditingLaws
pub mod TableLaws
pub mod WaitingLaws
