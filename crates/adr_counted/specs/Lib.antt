pub mod Gone
pub mod Along
pub mod There
pub mod Frozen
