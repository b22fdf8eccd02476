pub mod CoverLaws
pub mod CutLaws
pub mod GiveLaws
pub mod JoiningLaws
pub mod JointLaws
pub mod OutLaws
pub mod PartLaws
