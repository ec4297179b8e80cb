pub mod Members
pub mod Grants
pub mod Callbacks
pub mod Levels
pub mod Deletions
pub mod Tellings
pub mod Configs
