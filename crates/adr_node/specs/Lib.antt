pub mod Endings
pub mod Arguments
pub mod Script
