pub mod MapLemmas
pub mod KeyLemmas
pub mod LawLemmas
pub mod DigitLemmas
pub mod LeaseLemmas
