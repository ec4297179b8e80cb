pub mod Columns
pub mod KeptViews
pub mod Changes
pub mod Rollups
pub mod Refreshed
pub mod Objects
pub mod Laws
