pub mod Bases
pub mod Laws
