pub mod Counts
pub mod Ranks
pub mod Sums
pub mod QuotaLemmas
pub mod SignLemmas
pub mod ClaimLemmas
pub mod FairLemmas
pub mod UniqueLemmas
