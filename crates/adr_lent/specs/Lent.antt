-- A query whose rows are lent one at a time.
use Rattle.std.specs.Prelude.{◌≡◌, ◌⊎◌, ℕ, false, List, [], ◌∷◌, ◌++◌, Option, Some, None, IsTrue}
use Rattle.sqlite.specs.Order.{Row}
use Rattle.sqlite.specs.Store.{Ghosts}
use Rattle.sqlite.specs.Held.{Held, state}
use Rattle.sqlite.specs.Given.{HasGiven}
use Rattle.sqlite.specs.State.{State, HasCleanDisk, IsUnchanged, Survives, Shown, FailsToQuery}
use Rattle.adr_text.specs.declared.refusal.Refusal.{Refusal}
use Rattle.adr_db.specs.Refusals.{IsRefusalFor, CannotRead}
use Rattle.adr_lent.specs.Texts.{IsQueryText}

-- all is committed, as where no transaction is open
abbrev pub IsSettled : State → Type 0
IsSettled s = IsTrue s.is_open → s.now ≡ s.committed

module _ {S : Type 0} (g : Ghosts S) where
  -- the connection runs this query, over the database that it had before, and has lent these rows of its answer
  pub record HasLent (sql : List ℕ) (params : Row) (before now : Held S) (lent : List Row) : Type 0 where
    pub text : IsQueryText sql
    pub given : HasGiven g sql params now lent
    pub same : IsUnchanged (state g before) (state g now)

  -- one more row is lent, which reads as this, or those so far are the whole answer
  abbrev pub LendsOne : {T : Type 0} → (Row → T → Type 0) → List ℕ → Row → Held S → Held S → List Row → Option T → Type 0
  LendsOne Reads sql params before now lent (Some x) = (row : Row) × Reads row x × HasLent sql params before now (lent ++ row ∷ [])
  LendsOne Reads sql params before now lent None = Shown sql params (state g before) (state g now) lent × IsUnchanged (state g before) (state g now)

  -- so it is of whatever query was under way
  abbrev pub Lends : {T : Type 0} → (Row → T → Type 0) → Held S → Held S → Option T → Type 0
  Lends Reads old now found = (sql : List ℕ) (params : Row) (before : Held S) (lent : List Row) → HasLent sql params before old lent → LendsOne Reads sql params before now lent found

  -- why none is: the query failed, as its error says, or one more row is lent, which does not read
  abbrev pub FailsToLend : {T : Type 0} → (T → Type 0) → (Row → T → Type 0) → Held S → Held S → Refusal → Type 0
  FailsToLend Admits Reads old now refusal =
      (sql : List ℕ) (params : Row) (before : Held S) (lent : List Row) → HasLent sql params before old lent
      → IsRefusalFor (FailsToQuery sql params (state g old) (state g now)) refusal ⊎ ((row : Row) × HasLent sql params before now (lent ++ row ∷ []) × CannotRead Admits Reads row refusal)

  -- What a call that only reads leaves, whatever it answers, where no transaction is open: while the store is open the database is as it was, and a
  -- crash leaves what it could before.
  pub record Stands (old new : Held S) : Type 0 where
    pub was_open : HasCleanDisk (state g new) → IsTrue (state g new).is_open → IsTrue (state g old).is_open
    pub same : HasCleanDisk (state g new) → IsTrue (state g new).is_open → IsSettled (state g old) → ((state g new).now ≡ (state g old).now) × ((state g new).committed ≡ (state g old).committed)
    pub over : old.in_transaction ≡ false → new.in_transaction ≡ false
    pub crash : Survives (state g old) (state g new) (λ _. ⊥)

  -- the query is begun, and no row is lent yet
  pub record Begins (sql : List ℕ) (params : Row) (old now : Held S) : Type 0 where
    pub lent : HasCleanDisk (state g now) → HasLent sql params old now []
    pub stands : Stands old now
