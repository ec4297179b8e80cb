pub mod RunLemmas
pub mod Listed
pub mod EditLemmas
pub mod Found
pub mod Sizes
pub mod Rooms
pub mod Made
pub mod Fitting
mod Outcomes
mod Delivered
mod Quiet
