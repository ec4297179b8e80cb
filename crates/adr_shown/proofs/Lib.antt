pub mod Fields
pub mod ShownLemmas
pub mod RollupLemmas
pub mod TokenLemmas
