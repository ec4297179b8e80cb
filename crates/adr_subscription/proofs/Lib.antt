pub mod KeptTexts
pub mod Unsettled
