-- The first rows of a query whose rows are lent.
use Rattle.std.specs.Prelude.{◌≡◌, ◌⊎◌, ℕ, ◌≤◌, Bool, false, List, [], length, Option, None, Some}
use Rattle.std.specs.List.{AllZip}
use Rattle.std.proofs.Math.Dec.{leb}
use Rattle.sqlite.specs.Order.{Row}
use Rattle.sqlite.specs.Store.{Ghosts}
use Rattle.sqlite.specs.Held.{Held, state}
use Rattle.sqlite.specs.State.{IsUnchanged, Shown}
use Rattle.adr_lent.specs.Lent.{HasLent}

-- at most so many, where there is a limit
abbrev pub IsAtMost : Option ℕ → ℕ → Type 0
IsAtMost None n = Unit {0}
IsAtMost (Some limit) n = n ≤ limit

-- where there is a limit, so many are enough
abbrev pub is_enough : Option ℕ → ℕ → Bool
is_enough None n = false
is_enough (Some limit) n = leb limit n

-- of a query at its start these rows are lent, which read as these: all of them, or as many as are wanted, and never more
abbrev pub LendsFirst : {S T : Type 0} → Ghosts S → (Row → T → Type 0) → Option ℕ → Held S → Held S → List T → Type 0
LendsFirst {S} g Reads limit old now xs =
    (sql : List ℕ) (params : Row) (before : Held S) → HasLent g sql params before old []
    → (lent : List Row) × AllZip Reads lent xs × IsAtMost limit (length lent) × IsUnchanged (state g before) (state g now)
    × (Shown sql params (state g before) (state g now) lent ⊎ (HasLent g sql params before now lent × (limit ≡ Some (length lent))))
