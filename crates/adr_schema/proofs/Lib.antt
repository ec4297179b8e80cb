pub mod Refusals
pub mod Reading
pub mod Stopping
pub mod Elements
pub mod Everybody
pub mod LawLemmas
