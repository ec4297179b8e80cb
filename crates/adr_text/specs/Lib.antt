pub mod Refusals
pub mod Faults
pub mod Ids
pub mod Names
pub mod Moments
pub mod Fields
pub mod Objects
pub mod Calls
