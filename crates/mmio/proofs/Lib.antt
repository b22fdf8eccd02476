mod DigitLaws
mod FrontLaws
mod HeadLaws
mod ListingLaws
mod PartLaws
mod SaidLaws
mod UsualLaws
mod ValueLaws
pub mod WriteLaws
