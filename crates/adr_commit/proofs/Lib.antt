pub mod Sorted
pub mod Visited
pub mod Ended
pub mod Quiet
