pub mod Commands
pub mod Edits
pub mod Deliveries
pub mod Listed
pub mod Steps
pub mod Runs
pub mod Named
pub mod Within
