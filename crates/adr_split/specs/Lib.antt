pub mod Limits
pub mod Quotas
pub mod Claims
pub mod FairSplit
pub mod Parts
pub mod Laws
