pub mod Heard
pub mod Visits
