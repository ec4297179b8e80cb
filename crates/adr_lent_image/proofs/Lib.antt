pub mod Gathered
pub mod Queries
pub mod ReadLemmas
pub mod MergeLemmas
