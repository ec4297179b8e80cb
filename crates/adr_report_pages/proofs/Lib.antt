pub mod Queries
pub mod FirstLemmas
pub mod OwnLemmas
pub mod ReportLemmas
