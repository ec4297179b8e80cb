pub mod Found
pub mod Weights
pub mod Parts
