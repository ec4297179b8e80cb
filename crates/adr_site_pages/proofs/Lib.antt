pub mod Pages
pub mod Queries
pub mod NumberLemmas
pub mod SiteLemmas
