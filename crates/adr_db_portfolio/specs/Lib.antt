pub mod Frozen
pub mod Sharers
pub mod Participants
pub mod KnownSharers
pub mod Columns
