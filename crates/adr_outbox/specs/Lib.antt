pub mod Turned
pub mod Appended
pub mod Told
pub mod Leased
pub mod Settled
pub mod Dropped
