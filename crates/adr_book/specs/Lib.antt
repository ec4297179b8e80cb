pub mod Opened
pub mod Trail
pub mod Words
pub mod Same
pub mod Entry
pub mod Receipts
pub mod Refused
