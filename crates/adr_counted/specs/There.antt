-- What was found by a number.
use Rattle.std.specs.Prelude.{◌≡◌, ℕ, true, List, Option, is_some, IfSome}
use Rattle.std.specs.Ordering.{nat_cmp}
use Rattle.adr_state.specs.Keys.{at}

-- what was found, if anything, has a number at which one is there
abbrev pub IsThere : {V : Type 0} → Option (ℕ × V) → List (ℕ × V) → Type 0
IsThere found rows = IfSome found (λ e. is_some (at nat_cmp e.0 rows) ≡ true)
