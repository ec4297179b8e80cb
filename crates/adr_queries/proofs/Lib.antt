pub mod Refuses
pub mod Listed
