pub mod Testing
pub mod FrozenStatements
pub mod TakesPart
