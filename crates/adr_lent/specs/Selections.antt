-- What a query selects of what the tables keep, however many of its rows are lent.
use Rattle.std.specs.Prelude.{◌≡◌, ℕ, List, ◌++◌}
use Rattle.sqlite.specs.Order.{Row}
use Rattle.sqlite.specs.Store.{Ghosts}
use Rattle.sqlite.specs.Held.{Held, state}
use Rattle.sqlite.specs.State.{Shown}
use Rattle.adr_db.specs.Kept.{Kept, Keeps}
use Rattle.adr_lent.specs.Lent.{HasLent}

-- The rows that are lent begin this selection of what was kept as the query began; those of the whole answer are all of it.
pub record Selects {S : Type 0} (g : Ghosts S) (sql : List ℕ) (params : Row) (selection : Kept → List Row) (before : Held S) : Type 0 where
  pub begins : (kept : Kept) → Keeps kept (state g before) → (now : Held S) (lent : List Row) → HasLent g sql params before now lent → (rest : List Row) × (lent ++ rest ≡ selection kept)
  pub whole : (kept : Kept) → Keeps kept (state g before) → (now : Held S) (lent : List Row) → Shown sql params (state g before) (state g now) lent → lent ≡ selection kept
