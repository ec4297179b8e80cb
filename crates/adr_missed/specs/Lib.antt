pub mod Missed
pub mod Taken
pub mod Unseen
pub mod Shut
pub mod Laws
