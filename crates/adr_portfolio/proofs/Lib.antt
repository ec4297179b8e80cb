pub mod NameLemmas
pub mod Decisions
