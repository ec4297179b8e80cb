-- The statements on the table `head`, and those that read what it follows from.
use Rattle.std.proofs.Common.{◌≡◌, ℕ, pos, Bool, true, false, cond, None, Some, Option, Result, List, [], ◌∷◌, codes, map, filter, take, refl, sym, ap, subst, ◌∙◌, is_eq}
use Rattle.std.specs.Prelude.{option_to_list, option_map}
use Rattle.adr_db.proofs.Common.{AllZip, list_all, nat_cmp, Null, Row, value_cmp, value_cmp-Int, filter-map, map-map, Query, end, Term, lit, col, op2, holds, eval_all, Ghosts, Held, state, State, Shown, understood, everything, at, and_true, equal_is, Holds, Runs, AreValues, IsUpsertText, IsRemoveText, IsSelectText, equalities, selection, order_from, select_runs}
use Rattle.sqlite_value.specs.declared.keys.Collation.TheVariants.{Binary}
use Rattle.sqlite_sql.specs.declared.ops.BinaryOp.TheVariants.{Compare}
use Rattle.sqlite_sql.specs.declared.ops.CompareOp.TheVariants.{Eq}
use Rattle.adr_sql.proofs.KeyedMaps.{upsert_entry_runs, remove_entry_runs}
use Rattle.adr_delivery.specs.declared.entry.Entry.{Entry}
use Rattle.adr_delivery.specs.Entries.{destination}
use Rattle.adr_db.specs.Tables.{schema}
use Rattle.adr_db.specs.Rows.{number, number_row, entry_row, head_row}
use Rattle.adr_db.specs.Kept.{Kept, Keeps, heads_of, contents_of, contents_with_heads}
use Rattle.adr_db.specs.Calls.{ChangesHeads, Finds, FindsBesideHeads, Shows}
use Rattle.adr_db.specs.Admitted.{ReadsNumber}
use Rattle.adr_db.proofs.Calls.{run_changes_heads, shown_finds, shown_finds_beside}
use Rattle.adr_db.proofs.Rows.{number_kept, numbers_as_values}
use Rattle.adr_db.proofs.Tables.{outbox, outbox_keyed, head, head_childless}
use Rattle.adr_db.proofs.Maps.{outbox_map, head_rows}
use Rattle.adr_db_outbox.specs.declared.heads.TheConstants.{PUT, REMOVE, READ_FIRST}
use Rattle.adr_db_outbox.specs.declared.outbox.TheConstants.{READ_DESTINATION}
use Rattle.adr_db_outbox.specs.Heads.{destination_at, first_at, with_head}
use Rattle.adr_db_outbox.proofs.RightHeads.{goal_of, head_is}

abbrev Waiting : Type 0
Waiting = ℕ × Entry

-- ---- the texts

puts : (e : ℕ × ℕ) → IsUpsertText schema 14 head PUT.now (head_row e) (head_row e)
unfolding understood everything
puts e = record { terms = lit Null ∷ col 0 0 ∷ col 0 1 ∷ []; met = 2; sets = col 0 4 ∷ col 0 5 ∷ []; command = refl; alone = (refl, refl); given = refl; meets = λ id next r. refl; writes = λ id next r. refl }

fit : (e : ℕ × ℕ) → AreValues head (head_row e)
fit e = record { fits = refl; full = refl; width = refl }

removes : IsRemoveText schema 14 head end (equalities 0 1) REMOVE.now
unfolding understood everything
removes = record { command = refl; alone = (refl, refl); flat = refl; joins = refl }

-- the numbers of the entries that go to a destination, of which the first is read
abbrev goes_there : List Term
goes_there = op2 (Compare Eq Binary) (col 1 2) (col 0 0) ∷ []

abbrev first_query : Query
first_query = record (selection outbox.tree end goes_there (col 1 1 ∷ []) (order_from 0 1)) { limit = lit (number 1) }

reads_first : IsSelectText schema outbox first_query end READ_FIRST.now
unfolding understood everything
reads_first = record { names = codes "id" ∷ []; command = refl; alone = (refl, refl); unlisted = refl; from = refl; order = refl; ungrouped = refl; undistinct = refl; joins = refl; sorts = refl; shows = refl }

-- the destination of the entry of a number
abbrev destination_query : Query
destination_query = selection outbox.tree end (equalities 0 1) (col 1 2 ∷ []) (order_from 0 1)

reads_destination : IsSelectText schema outbox destination_query end READ_DESTINATION.now
unfolding understood everything
reads_destination = record { names = codes "dest" ∷ []; command = refl; alone = (refl, refl); unlisted = refl; from = refl; order = refl; ungrouped = refl; undistinct = refl; joins = refl; sorts = refl; shows = refl }

-- ---- what they find

numbers_tie : (a b : ℕ) → is_eq (value_cmp (number a) (number b)) ≡ is_eq (nat_cmp a b)
numbers_tie a b = ap is_eq (value_cmp-Int (pos a) (pos b) ∙ numbers_as_values a b)

-- of the rows of entries
rows_are : (show : Row → Row) (passes : Row → Bool) (test : Waiting → Bool) → ((e : Waiting) → passes (entry_row e) ≡ test e) → (es : List Waiting) → map show (filter passes (map entry_row es)) ≡ map (λ e. show (entry_row e)) (filter test es)
rows_are show passes test same es = ap (map show) (filter-map passes entry_row es ∙ ap (λ (p : Waiting → Bool). map entry_row (filter p es)) (λ i e. same e i)) ∙ map-map show entry_row (filter test es)

-- the first that goes to a destination
first_there : (d : ℕ) (es : List Waiting) → take 1 (map (λ e. number_row e.0) (filter (λ e. is_eq (nat_cmp d (goal_of e))) es)) ≡ map number_row (option_to_list (at nat_cmp d (heads_of es)))
first_there d [] = refl
first_there d (e ∷ es) = by (is_eq (nat_cmp d (goal_of e))) (first_there d es) ∙ ap (λ (o : Option ℕ). map number_row (option_to_list o)) (sym (head_is d e es))
  where
    by : (b : Bool) → take 1 (map (λ e. number_row e.0) (filter (λ e. is_eq (nat_cmp d (goal_of e))) es)) ≡ map number_row (option_to_list (at nat_cmp d (heads_of es)))
        → take 1 (map (λ e. number_row e.0) (cond b (e ∷ filter (λ e. is_eq (nat_cmp d (goal_of e))) es) (filter (λ e. is_eq (nat_cmp d (goal_of e))) es))) ≡ map number_row (option_to_list (cond b (Some e.0) (at nat_cmp d (heads_of es))))
    by true more = refl
    by false more = more

-- where that of a number goes
goal_there : (n : ℕ) (es : List Waiting) → take 1 (map (λ e. number_row (goal_of e)) (filter (λ e. is_eq (nat_cmp n e.0)) es)) ≡ map number_row (option_to_list (option_map (λ (entry : Entry). destination entry.addressee) (at nat_cmp n es)))
goal_there n [] = refl
goal_there n (e ∷ es) = by (is_eq (nat_cmp n e.0)) (goal_there n es)
  where
    by : (b : Bool) → take 1 (map (λ e. number_row (goal_of e)) (filter (λ e. is_eq (nat_cmp n e.0)) es)) ≡ map number_row (option_to_list (option_map (λ (entry : Entry). destination entry.addressee) (at nat_cmp n es)))
        → take 1 (map (λ e. number_row (goal_of e)) (cond b (e ∷ filter (λ e. is_eq (nat_cmp n e.0)) es) (filter (λ e. is_eq (nat_cmp n e.0)) es))) ≡ map number_row (option_to_list (option_map (λ (entry : Entry). destination entry.addressee) (cond b (Some e.1) (at nat_cmp n es))))
    by true more = refl
    by false more = more

-- a number that is read is that number
number_read : (found there : Option ℕ) → AllZip ReadsNumber (map number_row (option_to_list there)) (option_to_list found) → found ≡ there
number_read None None read = refl
number_read None (Some n) read = absurd read
number_read (Some m) None read = absurd read
number_read (Some m) (Some n) read = ap Some (number_kept m n read.0)

once : {X : Type 0} (xs : List X) → take 1 (take 1 xs) ≡ take 1 xs
once [] = refl
once (x ∷ xs) = refl

first_read : (d : ℕ) (old new : State) (rows : List Row) (kept : Kept) (heads : List (ℕ × ℕ)) → Shown READ_FIRST.now (number_row d) old new rows → Holds schema (contents_with_heads heads kept) old → take 1 rows ≡ map number_row (option_to_list (first_at d kept))
first_read d old new rows kept heads h was =
    ap (take 1)
    (select_runs schema outbox_map.rows.at outbox outbox_keyed.place first_query end READ_FIRST.now (number_row d) reads_first refl old new rows (contents_with_heads heads kept) h was
    ∙ ap (take 1)
    (rows_are (λ row. eval_all (col 1 1 ∷ []) (number_row d ∷ (Null ∷ row) ∷ [])) (λ row. list_all (holds (number_row d ∷ (Null ∷ row) ∷ [])) goes_there) (λ e. is_eq (nat_cmp d (goal_of e)))
    (λ e. and_true _ ∙ equal_is (number (goal_of e)) (number d) refl ∙ numbers_tie d (goal_of e)) kept.entries))
    ∙ once _ ∙ first_there d kept.entries

destination_read : (n : ℕ) (old new : State) (rows : List Row) (kept : Kept) → Shown READ_DESTINATION.now (number_row n) old new rows → Keeps kept old → take 1 rows ≡ map number_row (option_to_list (destination_at n kept))
destination_read n old new rows kept h was =
    ap (take 1)
    (select_runs schema outbox_map.rows.at outbox outbox_keyed.place destination_query end READ_DESTINATION.now (number_row n) reads_destination refl old new rows (contents_of kept) h was.rows
    ∙ rows_are (λ row. eval_all (col 1 2 ∷ []) (number_row n ∷ (Null ∷ row) ∷ [])) (λ row. list_all (holds (number_row n ∷ (Null ∷ row) ∷ [])) (equalities 0 1)) (λ e. is_eq (nat_cmp n e.0))
    (λ e. and_true _ ∙ equal_is (number e.0) (number n) refl ∙ numbers_tie n e.0) kept.entries)
    ∙ goal_there n kept.entries

-- ---- the calls

module _ {S E : Type 0} (g : Ghosts S) (old new : Held S) where
  pub head_put : (dest n : ℕ) (r : Result Unit E) → Runs g old new PUT.now (head_row (dest, n)) r → ChangesHeads g old new (λ kept. kept) (λ kept heads. with_head dest (Some n) heads) r
  head_put dest n r =
      run_changes_heads g old new PUT.now (head_row (dest, n)) (λ kept. kept) (λ kept heads. with_head dest (Some n) heads) r (λ count h kept heads was.
      upsert_entry_runs head_rows (contents_with_heads heads kept) heads refl PUT.now (head_row (dest, n)) (state g old) (state g new) dest n (puts (dest, n)) (fit (dest, n)) count h was)

  pub head_removed : (dest : ℕ) (r : Result Unit E) → Runs g old new REMOVE.now (number_row dest) r → ChangesHeads g old new (λ kept. kept) (λ kept heads. with_head dest None heads) r
  head_removed dest r =
      run_changes_heads g old new REMOVE.now (number_row dest) (λ kept. kept) (λ kept heads. with_head dest None heads) r (λ count h kept heads was.
      remove_entry_runs head_rows (contents_with_heads heads kept) heads refl REMOVE.now (state g old) (state g new) dest refl head_childless removes count h was)

  pub first_finds : (dest : ℕ) (r : Result (Option ℕ) E) → Shows g old new READ_FIRST.now (number_row dest) (λ rows found. AllZip ReadsNumber (take 1 rows) (option_to_list found)) r → FindsBesideHeads g old new (λ kept first. first ≡ first_at dest kept) r
  first_finds dest r =
      shown_finds_beside g old new READ_FIRST.now (number_row dest) (λ rows found. AllZip ReadsNumber (take 1 rows) (option_to_list found)) (λ kept first. first ≡ first_at dest kept) r reads_first.alone (λ found rows kept heads shown was read.
      number_read found (first_at dest kept) (subst (λ rows. AllZip ReadsNumber rows (option_to_list found)) (first_read dest (state g old) (state g new) rows kept heads shown was) read))

  pub destination_finds : (n : ℕ) (r : Result (Option ℕ) E) → Shows g old new READ_DESTINATION.now (number_row n) (λ rows found. AllZip ReadsNumber (take 1 rows) (option_to_list found)) r → Finds g old new (λ kept found. found ≡ destination_at n kept) r
  destination_finds n r =
      shown_finds g old new READ_DESTINATION.now (number_row n) (λ rows found. AllZip ReadsNumber (take 1 rows) (option_to_list found)) (λ kept found. found ≡ destination_at n kept) r reads_destination.alone (λ found rows kept shown was read.
      number_read found (destination_at n kept) (subst (λ rows. AllZip ReadsNumber rows (option_to_list found)) (destination_read n (state g old) (state g new) rows kept shown was) read))
