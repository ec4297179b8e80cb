pub mod Reading
pub mod FirstBits
pub mod Naming
