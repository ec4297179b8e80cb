-- What stands behind what stood before.
use Rattle.std.proofs.Common.{◌≡◌, List, ◌++◌, sym, ap, ◌∙◌, append_assoc}

-- first these, and then those
pub behind : {A : Type 0} {between after all : List A} (before first next : List A) → between ≡ before ++ first → after ≡ between ++ next → all ≡ first ++ next → after ≡ before ++ all
behind before first next one two both = two ∙ ap (λ xs. xs ++ next) one ∙ append_assoc before first next ∙ ap (λ xs. before ++ xs) (sym both)
