pub mod Turned
pub mod Rolled
pub mod Sharing
pub mod Turns
pub mod Calls
pub mod Shown
