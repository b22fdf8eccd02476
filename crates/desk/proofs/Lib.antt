pub mod CutLaws
pub mod DeskLaws
pub mod EndLaws
pub mod IdleLaws
pub mod OverLaws
pub mod WorkLaws
