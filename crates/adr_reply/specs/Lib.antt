pub mod Replies
pub mod Problems
