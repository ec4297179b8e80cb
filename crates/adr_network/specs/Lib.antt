pub mod Bits
pub mod Networks
pub mod Addresses
pub mod Texts
