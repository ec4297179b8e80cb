pub mod Walks
pub mod Pieces
pub mod Kept
pub mod Laws
