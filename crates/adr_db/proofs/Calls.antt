-- From a statement that ran to the clauses of a call.
use Rattle.std.proofs.Common.{ℕ, List, Ok, Err, Result, IfOk}
use Rattle.adr_db.proofs.Common.{Row, Ghosts, Held, state, State, HasCleanDisk, Executes, Shown, understood, Runs, Changes, Contents, Holds, holds_still}
use Rattle.sqlite.specs.Given.{IsPlain}
use Rattle.adr_db.specs.Tables.{schema}
use Rattle.adr_db.specs.Kept.{Kept, Keeps, contents_of, contents_with_heads}
use Rattle.adr_db.specs.Calls.{LeavesKept, Finds, Shows, ChangesHeads, FindsBesideHeads}

-- a plain query leaves what is kept
keeps_still : (sql : List ℕ) (params : Row) (old new : State) (rows : List Row) (kept : Kept) → IsPlain (understood schema sql) → Shown sql params old new rows → Keeps kept old → Keeps kept new
keeps_still sql params old new rows kept plain shown was = record { rows = holds_still schema sql params old new rows (contents_of kept) plain shown was.rows; marks = was.marks; subs = was.subs }

module _ {S : Type 0} (g : Ghosts S) (old new : Held S) (sql : List ℕ) (params : Row) where
  -- a statement that writes
  pub run_leaves : {E : Type 0} (change : Kept → Kept) (r : Result Unit E) → ((count : ℕ) → Executes sql params (state g old) (state g new) (Ok count) → (kept : Kept) → Keeps kept (state g old) → Keeps (change kept) (state g new))
      → Runs g old new sql params r → LeavesKept g old new change r
  run_leaves change (Ok done) means ran clean = let it = ran clean in means it.0 it.1
  run_leaves change (Err e) means ran clean = tt

  pub run_changes : {E : Type 0} (change : Contents → Contents) (r : Result Unit E) → ((count : ℕ) (all : Contents) → Executes sql params (state g old) (state g new) (Ok count) → Holds schema all (state g old) → Holds schema (change all) (state g new))
      → Runs g old new sql params r → Changes g old new schema change r
  run_changes change (Ok done) means ran clean = let it = ran clean in λ all was. means it.0 all it.1 was
  run_changes change (Err e) means ran clean = tt

  -- the rows of a query are read
  pub shows : {T E : Type 0} (IsRead : List Row → T → Type 0) (r : Result T E) (rows : List Row) → (HasCleanDisk (state g new) → Shown sql params (state g old) (state g new) rows) → IfOk r (IsRead rows) → Shows g old new sql params IsRead r
  shows IsRead (Ok x) rows shown read clean = (rows, shown clean, read)
  shows IsRead (Err e) rows shown read clean = tt

  -- a query that leaves what is kept
  pub shown_finds : {T E : Type 0} (IsRead : List Row → T → Type 0) (IsRight : Kept → T → Type 0) (r : Result T E) → IsPlain (understood schema sql)
      → ((x : T) (rows : List Row) (kept : Kept) → Shown sql params (state g old) (state g new) rows → Keeps kept (state g old) → IsRead rows x → IsRight kept x) → Shows g old new sql params IsRead r → Finds g old new IsRight r
  shown_finds IsRead IsRight (Ok x) plain right shows clean = let it = shows clean in λ kept was. (right x it.0 kept it.1 was it.2, keeps_still sql params (state g old) (state g new) it.0 kept plain it.1 was)
  shown_finds IsRead IsRight (Err e) plain right shows clean = tt

  -- a statement that writes, whatever `head` names
  pub run_changes_heads : {E : Type 0} (change : Kept → Kept) (point : Kept → List (ℕ × ℕ) → List (ℕ × ℕ)) (r : Result Unit E)
      → ((count : ℕ) → Executes sql params (state g old) (state g new) (Ok count) → (kept : Kept) (heads : List (ℕ × ℕ)) → Holds schema (contents_with_heads heads kept) (state g old) → Holds schema (contents_with_heads (point kept heads) (change kept)) (state g new))
      → Runs g old new sql params r → ChangesHeads g old new change point r
  run_changes_heads change point (Ok done) means ran clean = let it = ran clean in means it.0 it.1
  run_changes_heads change point (Err e) means ran clean = tt

  -- a query, whatever `head` names
  pub shown_finds_beside : {T E : Type 0} (IsRead : List Row → T → Type 0) (IsRight : Kept → T → Type 0) (r : Result T E) → IsPlain (understood schema sql)
      → ((x : T) (rows : List Row) (kept : Kept) (heads : List (ℕ × ℕ)) → Shown sql params (state g old) (state g new) rows → Holds schema (contents_with_heads heads kept) (state g old) → IsRead rows x → IsRight kept x) → Shows g old new sql params IsRead r
      → FindsBesideHeads g old new IsRight r
  shown_finds_beside IsRead IsRight (Ok x) plain right shows clean =
      let it = shows clean in
      λ kept heads was. (right x it.0 kept heads it.1 was it.2, holds_still schema sql params (state g old) (state g new) it.0 (contents_with_heads heads kept) plain it.1 was)
  shown_finds_beside IsRead IsRight (Err e) plain right shows clean = tt
