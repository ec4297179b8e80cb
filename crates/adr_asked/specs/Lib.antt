pub mod Queries
pub mod Filters
pub mod Requests
pub mod Replies
pub mod Turns
