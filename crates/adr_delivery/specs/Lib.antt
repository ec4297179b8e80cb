pub mod Tallies
pub mod Counts
pub mod Failing
pub mod Deliveries
pub mod Entries
pub mod Next
pub mod Outboxes
pub mod Jobs
