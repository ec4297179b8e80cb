pub mod Crews
pub mod Endpoints
pub mod Outcomes
pub mod Stopping
pub mod Cautions
