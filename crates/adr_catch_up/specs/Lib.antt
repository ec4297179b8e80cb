pub mod Upstream
pub mod QuietScans
pub mod Examples
pub mod Needed
pub mod Laws
