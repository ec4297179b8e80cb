pub mod ByNumbers
pub mod Sites
pub mod Laws
