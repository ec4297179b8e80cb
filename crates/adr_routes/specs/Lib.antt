pub mod Words
pub mod Methods
pub mod Places
pub mod Shapes
pub mod Tables
pub mod Paths
pub mod Laws
