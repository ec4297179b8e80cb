mod Weights
mod Runs
pub mod Frozen
