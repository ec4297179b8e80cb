pub mod Hearers
pub mod Listeners
