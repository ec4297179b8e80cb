pub mod Tokens
pub mod Heads
pub mod Requests
