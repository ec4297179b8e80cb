pub mod ShownTexts
pub mod RollupTexts
pub mod ReadValues
pub mod ReadShown
pub mod ReadRollups
pub mod Types
pub mod Tokens
pub mod Laws
