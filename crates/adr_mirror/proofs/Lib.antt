pub mod Orders
pub mod Rising
pub mod Keeping
