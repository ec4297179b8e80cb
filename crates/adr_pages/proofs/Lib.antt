pub mod EventLemmas
pub mod StampLemmas
