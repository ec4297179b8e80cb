-- That the computed split is fair, and that no other is.
use Rattle.std.specs.Prelude.{◌≡◌, ℕ, ◌<◌, ◌≤◌, ℤ, List, length, All}
use Rattle.adr_split.specs.FairSplit.{IsFairSplit}
use Rattle.adr_split.specs.Parts.{fair_split}

-- at least one weight, each at least 1
pub record AreWeights (w : List ℕ) : Type 0 where
  pub some : 0 < length w
  pub positive : All (λ x. 1 ≤ x) w

-- over at least one weight, each at least 1, the computed split is fair
abbrev pub FairSplitFits : Type 0
FairSplitFits = (v : ℤ) (w : List ℕ) → AreWeights w → IsFairSplit v w (fair_split v w)

-- over at least one weight, each at least 1, parts that are a fair split are the computed ones
abbrev pub OneListFits : Type 0
OneListFits = (v : ℤ) (w : List ℕ) (p : List ℤ) → AreWeights w → IsFairSplit v w p → p ≡ fair_split v w
