pub mod ExchangedLaws
pub mod FlippedLaws
pub mod Founds
pub mod RoleLaws
pub mod StraightLaws
pub mod TurnLaws
