-- The selection of the entry that leaves next: of the first entries, those that may leave, in the order of their numbers.
use Rattle.std.proofs.Common.{◌≡◌, ℕ, pos, ◌<◌, Bool, true, false, not, ◌&&◌, ◌||◌, ◌++◌, cond, None, Some, Option, List, [], ◌∷◌, map, filter, flat_map, take, refl, sym, ap, ap₂, subst, ◌∙◌, arith, slice_index_or, suc, Less, Equal, Greater, Ordering, is_eq, IsPermutation}
use Rattle.std.specs.Prelude.{option_to_list, is_some, nat_lt}
use Rattle.std.specs.Option.{option_map_or}
use Rattle.std.specs.Ordering.{is_le}
use Rattle.std.proofs.lemmas.Bool.{le-ltb, lt-ltb}
use Rattle.std.proofs.lemmas.List.Sorted.{IsPermutation-map}
use Rattle.adr_db.proofs.Common.{AllByRecursion, list_all, nat_cmp, ranked, MatchOrdering, take-map, Null, Row, value_cmp-Int, flat_map-map, map-map, IsAscending, Has, Query, Join, inner, end, matches, Term, Env, lit, col, op2, holds, State, Shown, understood, everything, and_true, at, equal_is, named_is, seen, selection}
use Rattle.sqlite_value.specs.Keys.{ascending}
use Rattle.sqlite_value.specs.declared.keys.Collation.TheVariants.{Binary}
use Rattle.sqlite_sql.specs.declared.ops.BinaryOp.TheVariants.{Compare, Or}
use Rattle.sqlite_sql.specs.declared.ops.CompareOp.TheVariants.{Eq, Le}
use Rattle.sqlite_sql.specs.Ops.{binary, is_true, from_truth, test}
use Rattle.sqlite_sql.specs.Query.{Output, output, output_cmp}
use Rattle.sqlite_trees.proofs.ListLemmas.{map-flat_map}
use Rattle.sqlite_value.specs.Order.{column}
use Rattle.adr_sql.proofs.Joins.{erased, slots}
use Rattle.adr_sql.proofs.Keys.{column_drop}
use Rattle.adr_sql.proofs.Selections.{picked}
use Rattle.adr_delivery.specs.declared.entry.Entry.{Entry}
use Rattle.adr_delivery.specs.Deliveries.{may_leave}
use Rattle.adr_delivery.specs.Next.{next_entry}
use Rattle.adr_db_outbox.specs.declared.next.TheConstants.{READ_NEXT}
use Rattle.adr_db.specs.Tables.{schema}
use Rattle.adr_db.specs.Rows.{number, flag_cell, lease_end, head_row, entry_row}
use Rattle.adr_db.specs.Kept.{Kept, Keeps, heads_of, contents_of}
use Rattle.adr_db.proofs.Comparisons.{compared, number_le}
use Rattle.adr_db.proofs.Entries.{NumbersRise, found_of}
use Rattle.adr_db.proofs.Rises.{waiting_rises}
use Rattle.adr_db.proofs.Rows.{numbers_as_values, numbers_as_rows, number_same_is}
use Rattle.adr_db.proofs.Tables.{outbox, head}
use Rattle.adr_db_outbox.proofs.OutboxStatements.{columns}
use Rattle.adr_db_outbox.proofs.Firsts.{leaving, next_is, leaving_rises, firsts_of, numbered, heads_are, firsts_wait, all_leaving_are}
use Rattle.adr_db_outbox.proofs.Sorted.{IsSortedText, found_in, sorted_runs}

abbrev Waiting : Type 0
Waiting = ℕ × Entry

abbrev pub equals : Term → Term → Term
equals a b = op2 (Compare Eq Binary) a b

abbrev joined : Join
joined = inner outbox.tree end

abbrev filters : List Term
filters =
    equals (col 2 1) (col 1 2)
    ∷ op2 (Compare Le Binary) (col 2 12) (col 0 0)
    ∷ op2 Or (equals (col 2 10) (lit (number 0))) (op2 (Compare Le Binary) (col 2 11) (col 0 0))
    ∷ []

abbrev project : List Term
project = col 2 1 ∷ col 2 2 ∷ col 2 3 ∷ col 2 4 ∷ col 2 5 ∷ col 2 6 ∷ col 2 7 ∷ col 2 8 ∷ col 2 9 ∷ col 2 10 ∷ col 2 11 ∷ col 2 12 ∷ []

abbrev query : Query
query = record (selection head.tree joined filters project ((col 2 1, ascending Binary) ∷ [])) { limit = lit (number 1) }

-- a column of the second table is no rowid
same_column : (env : Env) (place : ℕ) → column (slice_index_or env 2 []) (suc place) ≡ column (slice_index_or (erased (false ∷ true ∷ true ∷ []) env) 2 []) (suc place)
same_column [] place = refl
same_column (a ∷ []) place = refl
same_column (a ∷ b ∷ []) place = refl
same_column (a ∷ b ∷ r ∷ env) place = sym (column_drop r place)

shows_columns : (env : Env) → output query env ≡ output query (erased (slots (false ∷ []) query.from) env)
shows_columns env =
    let is : (place : ℕ) → column (slice_index_or env 2 []) (suc place) ≡ column (slice_index_or (erased (false ∷ true ∷ true ∷ []) env) 2 []) (suc place) = same_column env in
    λ i. (is 0 i ∷ [], is 0 i ∷ is 1 i ∷ is 2 i ∷ is 3 i ∷ is 4 i ∷ is 5 i ∷ is 6 i ∷ is 7 i ∷ is 8 i ∷ is 9 i ∷ is 10 i ∷ is 11 i ∷ [])

pub selects : IsSortedText schema query READ_NEXT.now
unfolding understood everything
selects = record { names = columns; command = refl; alone = (refl, refl); unlisted = refl; ungrouped = refl; undistinct = refl; joins = refl; blind = shows_columns }

-- ---- the tests

ended_is : (until now : ℕ) → is_le (nat_cmp until now) ≡ not (nat_lt now until)
ended_is until now = by (nat_cmp until now) (ranked until now (nat_cmp until now) refl)
  where
    by : (o : Ordering) → MatchOrdering o (until < now) (until ≡ now) (now < until) → is_le o ≡ not (nat_lt now until)
    by Less h = ap not (sym (le-ltb now until (omega (arith, h))))
    by Equal h = ap not (sym (le-ltb now until (omega (arith, h))))
    by Greater h = ap not (sym (lt-ltb now until h))

either_told : (x y : Bool) → is_true (binary Or (from_truth (Some x)) (from_truth (Some y))) ≡ (x || y)
unfolding binary
either_told true true = refl
either_told true false = refl
either_told false true = refl
either_told false false = refl

-- it has no lease, or one that has ended
lease_is : (now : ℕ) (lease : Option ℕ) → is_true (binary Or (binary (Compare Eq Binary) (flag_cell (is_some lease)) (number 0)) (binary (Compare Le Binary) (number (lease_end lease)) (number now))) ≡ not (option_map_or (λ until. nat_lt now until) lease false)
lease_is now None = ap is_true (ap₂ (binary Or) (compared Eq 0 0) (compared Le 0 now)) ∙ either_told (test Eq (nat_cmp 0 0)) (test Le (nat_cmp 0 now))
lease_is now (Some until) = ap is_true (ap₂ (binary Or) (compared Eq 1 0) (compared Le until now)) ∙ either_told (test Eq (nat_cmp 1 0)) (test Le (nat_cmp until now)) ∙ ended_is until now

-- a first entry, by its number, with an entry
abbrev beside : ℕ → ℕ × ℕ → Waiting → Env
beside now h e = (number now ∷ []) ∷ (Null ∷ head_row h) ∷ (Null ∷ entry_row e) ∷ []

passes_is : (now : ℕ) (h : ℕ × ℕ) (e : Waiting) → list_all (holds (beside now h e)) filters ≡ (is_eq (nat_cmp h.1 e.0) && may_leave now e.1.delivery)
passes_is now h e =
    ap₂ ◌&&◌ (equal_is (number e.0) (number h.1) refl ∙ ap is_eq (value_cmp-Int (pos h.1) (pos e.0) ∙ numbers_as_values h.1 e.0))
    (ap₂ ◌&&◌ (number_le e.1.delivery.due now) (and_true _ ∙ lease_is now e.1.delivery.lease))

-- ---- what is found

-- an entry that is shown, behind its number, by which it stands
abbrev entry_output : Waiting → Output
entry_output e = (number e.0 ∷ [], entry_row e)

nested : {X : Type 0} (a b : Bool) (xs : List X) → cond (a && b) xs [] ≡ cond a (cond b xs []) []
nested true b xs = refl
nested false b xs = refl

module _ (now : ℕ) (kept : Kept) (up : NumbersRise kept.entries) where
  -- the entry of a number, where one waits and may leave
  abbrev with_entry : ℕ → List Output
  with_entry n = option_map_or (λ entry. cond (may_leave now entry.delivery) (entry_output (n, entry) ∷ []) []) (at nat_cmp n kept.entries) []

  with_head_is : (h : ℕ × ℕ) → map (output query) (matches (seen schema.tables (contents_of kept)) filters joined ((number now ∷ []) ∷ (Null ∷ head_row h) ∷ [])) ≡ with_entry h.1
  with_head_is h =
      let them = seen schema.tables (contents_of kept) in
      ap (map (output query))
      (flat_map-map (λ row. matches them filters end ((number now ∷ []) ∷ (Null ∷ head_row h) ∷ row ∷ [])) (λ row. Null ∷ row) (map entry_row kept.entries)
      ∙ flat_map-map (λ row. matches them filters end ((number now ∷ []) ∷ (Null ∷ head_row h) ∷ (Null ∷ row) ∷ [])) entry_row kept.entries
      ∙ ap (λ (f : Waiting → List Env). flat_map f kept.entries)
      (λ i e. (ap (λ (b : Bool). cond b (beside now h e ∷ []) []) (passes_is now h e) ∙ nested (is_eq (nat_cmp h.1 e.0)) (may_leave now e.1.delivery) (beside now h e ∷ [])) i)
      ∙ named_is nat_cmp (λ j k. number_same_is k j) (λ e. cond (may_leave now e.1.delivery) (beside now h e ∷ []) []) h.1 kept.entries up)
      ∙ by (at nat_cmp h.1 kept.entries)
    where
      if_may : (entry : Entry) (b : Bool) → map (output query) (cond b (beside now h (h.1, entry) ∷ []) []) ≡ cond b (entry_output (h.1, entry) ∷ []) []
      if_may entry true = refl
      if_may entry false = refl

      by : (there : Option Entry) → map (output query) (option_map_or (λ entry. cond (may_leave now entry.delivery) (beside now h (h.1, entry) ∷ []) []) there []) ≡ option_map_or (λ entry. cond (may_leave now entry.delivery) (entry_output (h.1, entry) ∷ []) []) there []
      by None = refl
      by (Some entry) = if_may entry (may_leave now entry.delivery)

  -- a first entry waits
  each_waits : (hs : List (ℕ × Waiting)) → AllByRecursion (λ h. Has kept.entries h.1) hs → flat_map (λ h. with_entry h.1.0) hs ≡ flat_map (λ h. cond (may_leave now h.1.1.delivery) (entry_output h.1 ∷ []) []) hs
  each_waits [] wait = refl
  each_waits (h ∷ hs) wait =
      ap₂ ◌++◌ (ap (λ there. option_map_or (λ (entry : Entry). cond (may_leave now entry.delivery) (entry_output (h.1.0, entry) ∷ []) []) there []) (found_of kept.entries up h.1 wait.0)) (each_waits hs wait.1)

  found_is : found_in schema query READ_NEXT.now (number now ∷ []) selects (contents_of kept) ≡ map (λ h. entry_output h.1) (filter (λ h. may_leave now h.1.1.delivery) (firsts_of kept.entries))
  found_is =
      let them = seen schema.tables (contents_of kept) in
      map-flat_map (output query) (λ r. matches them filters joined ((number now ∷ []) ∷ r ∷ [])) (them head.tree)
      ∙ flat_map-map (λ r. map (output query) (matches them filters joined ((number now ∷ []) ∷ r ∷ []))) (λ row. Null ∷ row) (map head_row (heads_of kept.entries))
      ∙ flat_map-map (λ row. map (output query) (matches them filters joined ((number now ∷ []) ∷ (Null ∷ row) ∷ []))) head_row (heads_of kept.entries)
      ∙ ap (λ (f : ℕ × ℕ → List Output). flat_map f (heads_of kept.entries)) (λ i h. with_head_is h i)
      ∙ ap (flat_map (λ (h : ℕ × ℕ). with_entry h.1)) (heads_are kept.entries)
      ∙ flat_map-map (λ (h : ℕ × ℕ). with_entry h.1) numbered (firsts_of kept.entries)
      ∙ each_waits (firsts_of kept.entries) (firsts_wait kept.entries)
      ∙ picked (λ (h : ℕ × Waiting). may_leave now h.1.1.delivery) (λ h. entry_output h.1) (firsts_of kept.entries)

  -- it is what may leave, in another order
  found_are : IsPermutation (map entry_output (leaving [] now kept.entries)) (found_in schema query READ_NEXT.now (number now ∷ []) selects (contents_of kept))
  found_are =
      subst (IsPermutation (map entry_output (leaving [] now kept.entries))) (map-map entry_output (λ (h : ℕ × Waiting). h.1) (filter (λ h. may_leave now h.1.1.delivery) (firsts_of kept.entries)) ∙ sym found_is)
      (IsPermutation-map entry_output _ _ (all_leaving_are now kept.entries))

-- numbers that rise stand in the order of the query
outputs_rise : (es : List Waiting) → NumbersRise es → IsAscending (λ x y. output_cmp query x y ≡ Less) (map entry_output es)
outputs_rise [] up = tt
outputs_rise (e ∷ es) up = (above es up.0, outputs_rise es up.1)
  where
    above : (xs : List Waiting) → AllByRecursion (λ x. nat_cmp e.0 x.0 ≡ Less) xs → AllByRecursion (λ y. output_cmp query (entry_output e) y ≡ Less) (map entry_output xs)
    above [] below = tt
    above (x ∷ xs) below = (numbers_as_rows e.0 x.0 [] [] ∙ below.0, above xs below.1)

pub next_read : (now : ℕ) (old new : State) (rows : List Row) (kept : Kept) → Shown READ_NEXT.now (number now ∷ []) old new rows → Keeps kept old → rows ≡ map entry_row (option_to_list (next_entry now kept.entries))
next_read now old new rows kept h was =
    let up = waiting_rises kept old was in
    sorted_runs schema query READ_NEXT.now (number now ∷ []) selects old new rows (contents_of kept) h was.rows (map entry_output (leaving [] now kept.entries)) (found_are now kept up) (outputs_rise _ (leaving_rises [] now kept.entries up))
    ∙ ap (take 1) (map-map (λ (o : Output). o.1) entry_output (leaving [] now kept.entries)) ∙ take-map entry_row 1 (leaving [] now kept.entries) ∙ ap (map entry_row) (next_is [] now kept.entries)
