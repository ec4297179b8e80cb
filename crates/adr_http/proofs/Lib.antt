pub mod Tokens
pub mod Served
pub mod Desks
pub mod Mapped
pub mod MethodsByPath
