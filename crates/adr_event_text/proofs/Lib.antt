pub mod WalkLemmas
pub mod PieceLemmas
