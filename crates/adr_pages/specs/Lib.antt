pub mod Objects
pub mod Stamps
pub mod Laws
