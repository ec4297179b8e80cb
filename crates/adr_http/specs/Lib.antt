pub mod Roles
pub mod Plans
pub mod Serving
pub mod Takers
pub mod Laws
