pub mod Adding
pub mod MadeLaws
