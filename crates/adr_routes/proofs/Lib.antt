pub mod Utf8
pub mod Seeking
pub mod Shapes
pub mod TableRows
pub mod PlaceTable
pub mod NameSteps
pub mod IdTexts
pub mod FoundTexts
