pub mod Ids
pub mod Objects
pub mod WrittenReports
pub mod WrittenSubs
pub mod Counts
pub mod WrittenFrozen
pub mod WrittenNotices
