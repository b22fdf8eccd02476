pub mod EndLaws
pub mod SendLaws
pub mod WorkLaws
