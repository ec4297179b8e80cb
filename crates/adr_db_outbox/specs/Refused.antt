-- Why a call of several statements is refused: one of them was, where those before it led.
use Rattle.std.specs.Prelude.{◌≡◌, ◌⊎◌, ℕ, List, Result, IfErr, IsTrue}
use Rattle.sqlite.specs.Order.{Row}
use Rattle.sqlite.specs.Store.{Ghosts}
use Rattle.sqlite.specs.Held.{Held, state}
use Rattle.sqlite.specs.State.{HasCleanDisk, Shown}
use Rattle.adr_text.specs.declared.refusal.Refusal.{Refusal}
use Rattle.adr_text.specs.declared.refusal.Refusal.TheVariants.{Store}
use Rattle.adr_db.specs.Rows.{number_row, head_row}
use Rattle.adr_db.specs.Admitted.{IsNumber, ReadsNumber}
use Rattle.adr_db.specs.Refusals.{IsRefusalFor, IsErrorOfQuery, IsPutRefusal, HasBeyond, CannotReadFirst}
use Rattle.adr_db_outbox.specs.declared.heads.TheConstants.{PUT, REMOVE, READ_FIRST}

module _ {S : Type 0} (g : Ghosts S) where
  -- a number is read: a refusal is that of the query's own error, or the store's of a parameter past what SQL counts, or it is for the row that does not
  -- read as a number
  abbrev pub IsNumberRefusal : Held S → Held S → List ℕ → Row → Refusal → Type 0
  IsNumberRefusal old new sql params refusal =
      ((refusal ≡ Store) × HasBeyond params)
      ⊎ (IsRefusalFor (IsErrorOfQuery g old new sql params) refusal ⊎ ((rows : List Row) × Shown sql params (state g old) (state g new) rows × CannotReadFirst IsNumber ReadsNumber rows refusal))

  -- the first entry of a destination is written: its number is put, or none is left
  abbrev pub IsWriteRefusal : Held S → Held S → ℕ → Refusal → Type 0
  IsWriteRefusal old new dest refusal = ((n : ℕ) × IsPutRefusal g old new PUT.now (head_row (dest, n)) refusal) ⊎ IsPutRefusal g old new REMOVE.now (number_row dest) refusal

  -- what a destination has is set right: its first entry is looked for, and is written
  abbrev pub IsHeadRefusal : Held S → Held S → ℕ → Refusal → Type 0
  IsHeadRefusal old new dest refusal = IsNumberRefusal old new READ_FIRST.now (number_row dest) refusal ⊎ ((mid : Held S) × IsWriteRefusal mid new dest refusal)

  -- so, of some destination, somewhere on the way
  abbrev pub IsSomeHeadRefusal : Held S → Refusal → Type 0
  IsSomeHeadRefusal new refusal = (mid : Held S) × (dest : ℕ) × IsHeadRefusal mid new dest refusal

module _ {S : Type 0} (g : Ghosts S) (old new : Held S) where
  abbrev pub RefusesToSet : {T : Type 0} → ℕ → Result T Refusal → Type 0
  RefusesToSet dest result = HasCleanDisk (state g new) → IsTrue (state g old).in_transaction → IfErr result (IsHeadRefusal g old new dest)

  abbrev pub RefusesToSetSome : {T : Type 0} → Result T Refusal → Type 0
  RefusesToSetSome result = HasCleanDisk (state g new) → IsTrue (state g old).in_transaction → IfErr result (IsSomeHeadRefusal g new)

  -- An entry is changed: a refusal is that of the look for where the one of the number goes, of the statement that writes, or of what sets right the
  -- first entries.
  abbrev pub RefusesToChange : {T : Type 0} → List ℕ → Row → List ℕ → Row → Result T Refusal → Type 0
  RefusesToChange look key sql params result =
      HasCleanDisk (state g new)
      → IsTrue (state g old).in_transaction
      → IfErr result (λ refusal. IsNumberRefusal g old new look key refusal ⊎ (((mid : Held S) × IsPutRefusal g mid new sql params refusal) ⊎ IsSomeHeadRefusal g new refusal))
