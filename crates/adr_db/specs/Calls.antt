-- What a call makes of what the tables keep. What a call leaves of its transaction is `LeavesLent`.
use Rattle.std.specs.Prelude.{◌≡◌, ◌⊎◌, ℕ, List, [], ◌∷◌, Result, IfOk, OnOk}
use Rattle.sqlite.specs.Order.{Row}
use Rattle.sqlite.specs.Store.{Ghosts}
use Rattle.sqlite.specs.Held.{Held, state}
use Rattle.sqlite.specs.State.{HasCleanDisk, Shown}
use Rattle.sqlite.specs.declared.error.ErrorCode.TheVariants as code
use Rattle.sqlite.specs.declared.error.Error.{Error}
use Rattle.sqlite.specs.declared.error.Error.TheVariants.{SqliteFailure}
use Rattle.adr_text.specs.declared.refusal.Refusal.{Refusal}
use Rattle.adr_text.specs.declared.refusal.Refusal.TheVariants.{OutOfMemory, Store}
use Rattle.adr_sql.specs.Contents.{Holds}
use Rattle.adr_db.specs.Tables.{schema}
use Rattle.adr_db.specs.Kept.{Kept, Keeps, contents_with, contents_with_heads}

module _ {S : Type 0} (g : Ghosts S) (old new : Held S) where
  -- after Ok, tables that held a state hold what it is changed to
  abbrev pub LeavesKept : {T E : Type 0} → (Kept → Kept) → Result T E → Type 0
  LeavesKept change result = HasCleanDisk (state g new) → OnOk result ((kept : Kept) → Keeps kept (state g old) → Keeps (change kept) (state g new))

  -- so they do, and the answer is right for the state that they held
  abbrev pub Turns : {T E : Type 0} → (Kept → Kept) → (Kept → T → Type 0) → Result T E → Type 0
  Turns change IsRight result = HasCleanDisk (state g new) → IfOk result (λ x. (kept : Kept) → Keeps kept (state g old) → IsRight kept x × Keeps (change kept) (state g new))

  -- after Ok, the answer is right for the state that the tables held, and they hold it still
  abbrev pub Finds : {T E : Type 0} → (Kept → T → Type 0) → Result T E → Type 0
  Finds IsRight result = HasCleanDisk (state g new) → IfOk result (λ x. (kept : Kept) → Keeps kept (state g old) → IsRight kept x × Keeps kept (state g new))

  -- after Ok, the answer is right for the rows that the query shows with these parameters
  abbrev pub Shows : {T E : Type 0} → List ℕ → Row → (List Row → T → Type 0) → Result T E → Type 0
  Shows sql params IsRight result = HasCleanDisk (state g new) → IfOk result (λ x. (rows : List Row) × Shown sql params (state g old) (state g new) rows × IsRight rows x)

  -- after Ok, the rows of `report_value` are changed, whatever rows `report` holds; the others are as they were
  abbrev pub ChangesValues : {T E : Type 0} → (List Row → List Row) → Result T E → Type 0
  ChangesValues change result =
      HasCleanDisk (state g new) → OnOk result ((kept : Kept) (reports values : List Row) → Holds schema (contents_with reports values kept) (state g old) → Holds schema (contents_with reports (change values) kept) (state g new))

  -- after Ok, what is kept and what `head` names, right or not, are changed: to the one, and to the other as it follows from what was kept
  abbrev pub ChangesHeads : {T E : Type 0} → (Kept → Kept) → (Kept → List (ℕ × ℕ) → List (ℕ × ℕ)) → Result T E → Type 0
  ChangesHeads change point result =
      HasCleanDisk (state g new)
      → OnOk result ((kept : Kept) (heads : List (ℕ × ℕ)) → Holds schema (contents_with_heads heads kept) (state g old) → Holds schema (contents_with_heads (point kept heads) (change kept)) (state g new))

  -- after Ok, the answer is right for what is kept, whatever `head` names, and the tables hold the same still
  abbrev pub FindsBesideHeads : {T E : Type 0} → (Kept → T → Type 0) → Result T E → Type 0
  FindsBesideHeads IsRight result =
      HasCleanDisk (state g new)
      → IfOk result (λ x. (kept : Kept) (heads : List (ℕ × ℕ)) → Holds schema (contents_with_heads heads kept) (state g old) → IsRight kept x × Holds schema (contents_with_heads heads kept) (state g new))

-- an error of the store as a refusal: want of memory where it is that, else the store's
abbrev pub refusal_of : Error → Refusal
refusal_of (SqliteFailure code.OutOfMemory) = OutOfMemory
refusal_of _ = Store

-- memory ran out, or the store refused for another cause
abbrev pub IsOfStore : Refusal → Type 0
IsOfStore refusal = (refusal ≡ OutOfMemory) ⊎ (refusal ≡ Store)

-- one of these, or want of memory or the store's
abbrev pub IsOneOf : List Refusal → Refusal → Type 0
IsOneOf [] refusal = IsOfStore refusal
IsOneOf (one ∷ more) refusal = (refusal ≡ one) ⊎ IsOneOf more refusal
