pub mod Leading
pub mod Listing
pub mod Placed
