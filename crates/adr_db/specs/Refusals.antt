-- Why a call on the tables is refused, and which of the two refusals it is then.
use Rattle.std.specs.Prelude.{◌≡◌, ◌⊎◌, ◌<◌, ℕ, pos, List, [], ◌∷◌, take, Result, Err, IfErr, IsTrue}
use Rattle.std.specs.List.{AllByRecursion, AllZip}
use Rattle.sqlite.specs.Order.{Row}
use Rattle.sqlite.specs.Store.{Ghosts}
use Rattle.sqlite.specs.Held.{Held, state}
use Rattle.sqlite.specs.State.{HasCleanDisk, ExecutesInside, FailsToQuery, IsTooLate, Shown}
use Rattle.sqlite.specs.declared.error.Error.{Error}
use Rattle.sqlite.specs.declared.types.Value.{Value}
use Rattle.sqlite.specs.declared.types.Value.TheVariants.{Null, Int}
use Rattle.adr_text.specs.declared.refusal.Refusal.{Refusal}
use Rattle.adr_text.specs.declared.refusal.Refusal.TheVariants.{OutOfMemory, Store}
use Rattle.adr_sql.specs.Calls.{FailsAmong}
use Rattle.adr_db.specs.Calls.{refusal_of}

-- a refusal is that of an error which is so
abbrev pub IsRefusalFor : (Error → Type 0) → Refusal → Type 0
IsRefusalFor IsSo refusal = (e : Error) × (refusal ≡ refusal_of e) × IsSo e

-- ---- numbers past what SQL counts

-- 9,223,372,036,854,775,807: the last number that SQL counts
abbrev pub last_number : ℕ
last_number = 9_223_372_036_854_775_807

-- the value is a number above the last one
abbrev pub IsBeyond : Value → Type 0
IsBeyond (Int (pos n)) = last_number < n
IsBeyond _ = ⊥

-- one of these values is such a number
abbrev pub HasBeyond : Row → Type 0
HasBeyond [] = ⊥
HasBeyond (value ∷ row) = IsBeyond value ⊎ HasBeyond row

-- ---- what does not read

-- memory ran out while a value was read, or there is none to read: it is NULL, or not readable
abbrev pub IsMisread : (Value → Type 0) → Value → Refusal → Type 0
IsMisread IsReadable value refusal = (refusal ≡ OutOfMemory) ⊎ ((refusal ≡ Store) × ((value ≡ Null) ⊎ (¬ IsReadable value)))

-- memory ran out while this was read, or nothing that the types admit reads as it
abbrev pub CannotRead : {R X : Type 0} → (X → Type 0) → (R → X → Type 0) → R → Refusal → Type 0
CannotRead Admits Reads from refusal = (refusal ≡ OutOfMemory) ⊎ ((refusal ≡ Store) × ((x : _) → Admits x → ¬ Reads from x))

-- memory ran out while all rows were read, or nothing that the types admit reads as them, one by one
abbrev pub CannotReadAll : {X : Type 0} → (X → Type 0) → (Row → X → Type 0) → List Row → Refusal → Type 0
CannotReadAll Admits Reads = CannotRead (AllByRecursion Admits) (AllZip Reads)

-- memory ran out while the first row was read, or there is one and nothing that the types admit reads as it
abbrev pub CannotReadFirst : {X : Type 0} → (X → Type 0) → (Row → X → Type 0) → List Row → Refusal → Type 0
CannotReadFirst Admits Reads = CannotRead (AllByRecursion Admits) (λ rows. AllZip Reads (take 1 rows))

module _ {S : Type 0} (g : Ghosts S) (old new : Held S) where
  -- an error of a statement that writes, as its own, and of a query
  abbrev pub IsErrorOf : List ℕ → Row → Error → Type 0
  IsErrorOf sql params e = ExecutesInside 0 sql params (state g old) (state g new) (Err e)

  abbrev pub IsErrorOfQuery : List ℕ → Row → Error → Type 0
  IsErrorOfQuery sql params e = FailsToQuery sql params (state g old) (state g new) e ⊎ IsTooLate sql params (state g old) (state g new) e

  -- a refusal of a statement that writes is that of its own error
  abbrev pub RefusesToRun : {T : Type 0} → List ℕ → Row → Result T Refusal → Type 0
  RefusesToRun sql params result = HasCleanDisk (state g new) → IsTrue (state g old).in_transaction → IfErr result (IsRefusalFor (IsErrorOf sql params))

  -- so is that of a query
  abbrev pub RefusesToAnswer : {T : Type 0} → List ℕ → Row → Result T Refusal → Type 0
  RefusesToAnswer sql params result = HasCleanDisk (state g new) → IfErr result (IsRefusalFor (IsErrorOfQuery sql params))

  -- values are put into a statement: a refusal is that of its own error, or the store's of a number past what SQL counts
  abbrev pub IsPutRefusal : List ℕ → Row → Refusal → Type 0
  IsPutRefusal sql params refusal = ((refusal ≡ Store) × HasBeyond params) ⊎ IsRefusalFor (IsErrorOf sql params) refusal

  -- a refusal of a statement into which values are put is that of its own error, or the store's of a number above the
  -- last one
  abbrev pub RefusesToPut : {T : Type 0} → List ℕ → Row → Result T Refusal → Type 0
  RefusesToPut sql params result = HasCleanDisk (state g new) → IsTrue (state g old).in_transaction → IfErr result (IsPutRefusal sql params)

  -- so is that of one into which a text is put; or memory ran out before, and nothing was done
  abbrev pub RefusesToPutText : {T : Type 0} → List ℕ → Row → Result T Refusal → Type 0
  RefusesToPutText sql params result = HasCleanDisk (state g new) → IsTrue (state g old).in_transaction → IfErr result (λ refusal. ((refusal ≡ OutOfMemory) × (new ≡ old)) ⊎ IsPutRefusal sql params refusal)

  -- Rows are read: a refusal is that of the query's own error, or the store's of a parameter past what SQL counts, or it is for what was made of the
  -- rows that the query showed.
  abbrev pub IsShowRefusal : List ℕ → Row → (List Row → Refusal → Type 0) → Refusal → Type 0
  IsShowRefusal sql params IsUnread refusal = ((refusal ≡ Store) × HasBeyond params) ⊎ (IsRefusalFor (IsErrorOfQuery sql params) refusal ⊎ ((rows : List Row) × Shown sql params (state g old) (state g new) rows × IsUnread rows refusal))

  abbrev pub RefusesToShow : {T : Type 0} → List ℕ → Row → (List Row → Refusal → Type 0) → Result T Refusal → Type 0
  RefusesToShow sql params IsUnread result = HasCleanDisk (state g new) → IfErr result (IsShowRefusal sql params IsUnread)

-- Statements run one after another, and then values are put: a refusal is that of the error of the first one that failed.
abbrev pub RefusesToRunAll : {S T : Type 0} → Ghosts S → Held S → Held S → List (List ℕ) → List ℕ → Row → Result T Refusal → Type 0
RefusesToRunAll {S} g old new texts sql params result =
    HasCleanDisk (state g new)
    → IsTrue (state g old).in_transaction
    → IfErr result (λ refusal. IsRefusalFor (FailsAmong g texts old new) refusal ⊎ ((mid : Held S) × IsPutRefusal g mid new sql params refusal))
