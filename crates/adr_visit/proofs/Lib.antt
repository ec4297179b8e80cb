pub mod Visited
pub mod Hearing
pub mod Told
