pub mod Texts
pub mod Streams
pub mod Cuts
pub mod Queries
pub mod Pages
pub mod Picks
pub mod WholeTables
