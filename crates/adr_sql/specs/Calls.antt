-- What a call leaves of the transaction that it was lent, and what it does to the tables.
use Rattle.std.specs.Prelude.{◌≡◌, ℕ, List, [], ◌∷◌, Result, Ok, IfOk, OnOk, OnErr, IfErr, Err, ◌⊎◌, false, IsTrue}
use Rattle.std.specs.Borrow.{MutBor}
use Rattle.sqlite.specs.Order.{Row}
use Rattle.sqlite.specs.Schema.{Schema}
use Rattle.sqlite.specs.Tree.{Trees}
use Rattle.sqlite.specs.Store.{Ghosts}
use Rattle.sqlite.specs.Held.{Held, state}
use Rattle.sqlite.specs.State.{State, HasCleanDisk, KeepsCommit, Survives, Executes, ExecutesInside, FailsToQuery, IsTooLate, Shown}
use Rattle.sqlite.specs.declared.error.Error.{Error}
use Rattle.adr_sql.specs.Contents.{Contents, Holds}

module _ {S : Type 0} (g : Ghosts S) where
  -- the first of these statements ran, one after another, and the next one failed with this error, as its own
  abbrev pub FailsAmong : List (List ℕ) → Held S → Held S → Error → Type 0
  FailsAmong [] old new e = ⊥
  FailsAmong (sql ∷ texts) old new e = ExecutesInside 0 sql [] (state g old) (state g new) (Err e) ⊎ ((mid : Held S) × (count : ℕ) × Executes sql [] (state g old) (state g mid) (Ok count) × FailsAmong texts mid new e)

module _ {S : Type 0} (g : Ghosts S) (old new : Held S) where
  -- A crash may leave what it could before, the last commit stays, and after Ok the transaction still stands. What it says of
  -- values is said where the disk gave back what was written.
  pub record Stays {T E : Type 0} (result : Result T E) : Type 0 where
    pub crash : Survives (state g old) (state g new) (λ _. ⊥)
    pub commit : HasCleanDisk (state g new) → IsTrue (state g old).in_transaction → KeepsCommit (state g old) (state g new)
    pub inside : HasCleanDisk (state g new) → IsTrue (state g old).in_transaction → OnOk result (IsTrue (state g new).in_transaction)

-- A call leaves the transaction that it was lent as it was: it is the same one, and it stays.
pub record LeavesLent {S : Type 0} (g : Ghosts S) (old new : MutBor (Held S)) {T E : Type 0} (result : Result T E) : Type 0 where
  pub same : new.ghost_name ≡ old.ghost_name
  pub stays : Stays g old.now new.now result

module _ {S : Type 0} (g : Ghosts S) (old new : Held S) where
  -- after Ok, the statement ran with these parameters
  abbrev pub Runs : {E : Type 0} → List ℕ → Row → Result Unit E → Type 0
  Runs sql params result = HasCleanDisk (state g new) → OnOk result ((count : ℕ) × Executes sql params (state g old) (state g new) (Ok count))

  -- after Ok, the rows in what was answered are what the query shows with these parameters
  abbrev pub Answers : {T E : Type 0} → List ℕ → Row → (T → List Row) → Result T E → Type 0
  Answers sql params rows_in result = HasCleanDisk (state g new) → IfOk result (λ x. Shown sql params (state g old) (state g new) (rows_in x))

  -- an error of a statement that writes is the statement's own: its text, the parameters, the rows or the store were at fault, as it says
  abbrev pub FailsToRun : {T : Type 0} → List ℕ → Row → Result T Error → Type 0
  FailsToRun sql params result = HasCleanDisk (state g new) → IsTrue (state g old).in_transaction → IfErr result (λ e. ExecutesInside 0 sql params (state g old) (state g new) (Err e))

  -- so is that of statements which run one after another, without parameters: it is that of the first one that failed, where those before it led
  abbrev pub FailsToRunAll : {T : Type 0} → List (List ℕ) → Result T Error → Type 0
  FailsToRunAll texts result = HasCleanDisk (state g new) → IsTrue (state g old).in_transaction → IfErr result (λ e. FailsAmong g texts old new e)

  -- so is that of a query
  abbrev pub FailsToAnswer : {T : Type 0} → List ℕ → Row → Result T Error → Type 0
  FailsToAnswer sql params result = HasCleanDisk (state g new) → IfErr result (λ e. FailsToQuery sql params (state g old) (state g new) e ⊎ IsTooLate sql params (state g old) (state g new) e)

  -- after Ok, tables that held something hold what it is changed to
  abbrev pub Changes : {T E : Type 0} → Schema → (Contents → Contents) → Result T E → Type 0
  Changes schema change result = HasCleanDisk (state g new) → OnOk result ((all : Contents) → Holds schema all (state g old) → Holds schema (change all) (state g new))

  -- A whole transaction, begun and then committed or dropped. After Ok the change is there and committed, and the store is open; after an error the last
  -- commit stands; a shut store never opens again; and a crash on the way leaves what it could before or the change whole, never a part of it.
  pub record Commits {T E : Type 0} (IsDone : State → Type 0) (IsLeft : Trees → Type 0) (result : Result T E) : Type 0 where
    pub done : HasCleanDisk (state g new) → OnOk result (IsDone (state g new) × ((state g new).committed ≡ (state g new).now))
    pub is_open : HasCleanDisk (state g new) → OnOk result (IsTrue (state g new).is_open)
    pub was_open : HasCleanDisk (state g new) → IsTrue (state g new).is_open → IsTrue (state g old).is_open
    pub undone : HasCleanDisk (state g new) → IsTrue (state g new).is_open → OnErr result (((state g new).now ≡ (state g old).committed) × ((state g new).committed ≡ (state g old).committed))
    pub over : new.in_transaction ≡ false
    pub crash : Survives (state g old) (state g new) IsLeft
