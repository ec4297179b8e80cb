pub mod Numbers
pub mod Turns
pub mod Lines
pub mod Scripts
pub mod Readings
