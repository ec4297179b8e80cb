pub mod Maps
pub mod Sources
pub mod Touched
pub mod Refresh
pub mod Laws
