pub mod Notices
pub mod Matching
pub mod RollupEntries
pub mod Shown
pub mod Made
pub mod Committed
pub mod Laws
