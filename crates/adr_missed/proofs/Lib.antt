pub mod Limits
pub mod Queries
pub mod Keys
pub mod Told
pub mod Closing
