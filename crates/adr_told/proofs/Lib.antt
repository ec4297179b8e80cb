pub mod Turns
pub mod Whole
pub mod Shown
pub mod RolledUp
pub mod Trails
pub mod Objects
pub mod Hearers
pub mod Commits
