pub mod Heads
pub mod Refused
