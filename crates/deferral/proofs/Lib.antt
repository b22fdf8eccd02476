pub mod NoneLaws
