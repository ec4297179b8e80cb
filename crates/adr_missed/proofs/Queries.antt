-- What the query of the live keys that were not polled is, and what it selects.
use Rattle.std.proofs.Common.{◌≡◌, pos, Bool, not, ◌&&◌, ◌||◌, List, [], ◌∷◌, ◌++◌, codes, map, filter, refl, sym, ap, ap₂, ◌∙◌, is_eq}
use Rattle.adr_db.proofs.Common.{list_any, Null, Row, column, value_cmp, value_cmp-Int, filter-map, map-map, Query, Join, inner, counted, end, lit, col, op1, op2, Ghosts, Held, state, State, Shown, understood, everything, Mark, Live, Dead, MirrorKey, mirror_cmp, cells, has_key, key_order, and_true, equal_is, seen, IsSelectText, order_from, selection, is_found, select_runs, pairs_from, absent_key, is_live}
use Rattle.sqlite_value.specs.declared.keys.Collation.TheVariants.{Binary}
use Rattle.sqlite_sql.specs.declared.ops.BinaryOp.TheVariants.{Compare}
use Rattle.sqlite_sql.specs.declared.ops.CompareOp.TheVariants.{Eq}
use Rattle.sqlite_sql.specs.declared.ops.UnaryOp.TheVariants.{Not}
use Rattle.adr_missed.specs.declared.unseen.TheConstants.{READ_UNSEEN}
use Rattle.adr_db.specs.Tables.{schema}
use Rattle.adr_db.specs.Rows.{number, key_row, known_columns, mark_row}
use Rattle.adr_state.specs.Scans.{has_key as is_polled}
use Rattle.adr_db.specs.Kept.{Kept, Keeps, contents_of}
use Rattle.adr_db.proofs.Tables.{mirror, mirror_keyed, polled}
use Rattle.adr_db.proofs.Maps.{mirror_map}
use Rattle.adr_db.proofs.Rows.{keys_as_rows}
use Rattle.adr_lent.specs.Texts.{IsQueryText}
use Rattle.adr_lent.specs.Selections.{Selects}
use Rattle.adr_lent.proofs.Streams.{lent_begin}
use Rattle.adr_missed.specs.Unseen.{unseen_rows}

pub unseen_query : IsQueryText READ_UNSEEN.now
unfolding everything
unseen_query = record { read = record { unreturned = λ schema base. refl; untimed = λ schema. refl } }

abbrev rest : Join
rest = counted 1 (inner polled.tree end) (pairs_from 0 2) end

abbrev query : Query
query = selection mirror.tree rest (op2 (Compare Eq Binary) (col 1 3) (lit (number 1)) ∷ op1 Not (col 2 0) ∷ []) (col 1 1 ∷ col 1 2 ∷ []) (order_from 0 2)

reads : IsSelectText schema mirror query rest READ_UNSEEN.now
unfolding understood everything
reads = record { names = codes "kind" ∷ codes "id" ∷ []; command = refl; alone = (refl, refl); unlisted = refl; from = refl; order = refl; ungrouped = refl; undistinct = refl; joins = refl; sorts = refl; shows = refl }

-- ---- what it finds

live_is : (mark : Mark) → is_eq (value_cmp (number 1) (column (known_columns mark) 0)) ≡ is_live mark
live_is (Live moment body) = ap is_eq (value_cmp-Int (pos 1) (pos 1))
live_is Dead = ap is_eq (value_cmp-Int (pos 1) (pos 2))

any_map : {X Y : Type 0} (p : Y → Bool) (f : X → Y) (xs : List X) → list_any p (map f xs) ≡ list_any (λ x. p (f x)) xs
any_map p f [] = refl
any_map p f (x ∷ xs) = ap (λ b. p (f x) || b) (any_map p f xs)

-- the tests of WHERE, at a key with its mark
passes_is : (kept : Kept) (e : MirrorKey × Mark) → is_found (seen schema.tables (contents_of kept)) rest query.filter [] (Null ∷ mark_row e) ≡ (is_live e.1 && not (is_polled kept.polled e.0))
passes_is kept e =
    ap₂ ◌&&◌ (equal_is (column (mark_row e) 2) (number 1) refl ∙ live_is e.1)
    (and_true _ ∙ absent_key schema.tables (contents_of kept) 2 polled.tree [] (mark_row e) refl
    ∙ ap not (any_map (has_key 2 (mark_row e)) key_row kept.polled ∙ ap (λ (p : MirrorKey → Bool). list_any p kept.polled) (λ i k. is_eq (polled_order k i))))
  where
    polled_order : (k : MirrorKey) → key_order 2 (mark_row e) (key_row k) ≡ mirror_cmp e.0 k
    polled_order k = keys_as_rows e.0 k (known_columns e.1) []

found_is : (kept : Kept) → map (λ row. cells 0 2 row) (filter (λ row. is_found (seen schema.tables (contents_of kept)) rest query.filter [] (Null ∷ row)) (map mark_row kept.mirror)) ≡ unseen_rows kept
found_is kept =
    ap (map (λ row. cells 0 2 row)) (filter-map _ mark_row kept.mirror ∙ ap (λ (p : MirrorKey × Mark → Bool). map mark_row (filter p kept.mirror)) (λ i e. passes_is kept e i))
    ∙ map-map (λ row. cells 0 2 row) mark_row _ ∙ sym (map-map key_row (λ e. e.0) _)

unseen_shown : (old new : State) (rows : List Row) (kept : Kept) → Shown READ_UNSEEN.now [] old new rows → Keeps kept old → rows ≡ unseen_rows kept
unseen_shown old new rows kept all was = select_runs schema mirror_map.rows.at mirror mirror_keyed.place query rest READ_UNSEEN.now [] reads refl old new rows (contents_of kept) all was.rows ∙ found_is kept

-- ---- however many of its rows are lent

pub unseen_selected : {S : Type 0} (g : Ghosts S) (before : Held S) → Selects g READ_UNSEEN.now [] unseen_rows before
unseen_selected g before = record {
  begins = λ kept was now lent h.
      let it = lent_begin g READ_UNSEEN.now [] before now lent schema query reads.names was.rows.has reads.command h in
      (it.0, unseen_shown (state g before) (state g now) (lent ++ it.0) kept it.1 was);
  whole = λ kept was now lent all. unseen_shown (state g before) (state g now) lent kept all was;
}
