pub mod Fresh
pub mod Come
