pub mod Next
pub mod Leases
pub mod Told
pub mod Counts
