pub mod Puts
pub mod Sums
pub mod Going
pub mod Known
pub mod Decided
pub mod Freezing
