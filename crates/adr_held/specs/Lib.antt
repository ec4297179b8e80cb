pub mod Right
pub mod Held
pub mod Laws
