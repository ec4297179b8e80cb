pub mod Calls
pub mod Sights
pub mod Told
