pub mod BitLaws
pub mod Folded
pub mod Kept
pub mod Lists
pub mod PartLaws
pub mod PresentLaws
pub mod WorkedFolds
