pub mod Upstreams
pub mod Addresses
pub mod Requests
pub mod Targets
pub mod Findings
pub mod Outcomes
pub mod ReplyHeads
pub mod Replies
