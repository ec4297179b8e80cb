-- INSERT .. ON CONFLICT (key) DO UPDATE SET of every column: the row that has the key is written anew where it stands, and no row goes.
-- The table may have other unique keys, and references may point to it, where none of them is ON UPDATE something.
use Rattle.std.proofs.Common.{◌≡◌, ◌≤◌, inl, inr, ℕ, suc, ℤ, Bool, true, false, not, ◌&&◌, ◌||◌, cond, List, [], ◌∷◌, ◌++◌, map, filter, drop, length, Some, None, Option, Ok, Result, MatchBool, is_lt, int_cmp, ◌/◌, refl, sym, ap, ap₂, subst, ◌∙◌, arith, is_eq, IsPermutation, Less}
use Rattle.adr_sql.proofs.Common.{AllByRecursion, list_any, and_parts, not-true, false_from_ne_true, tied_itself, tied_back, length-map, length_permutation, Null, Int, Binary, Row, value_cmp, plain, value_cmp_total, Trees, rowid, put_row, IsAscending, filter_all, filter_same, filter-map, ascending-filter, IsPermutation-filter, Compare, Eq, Term, col, op2, eval_all, holds, Query, Output, end, Enforced, Table, Schema, guards, agree, equal, Chosen, Above, Given, Has, ids_of, cast_row, Edit, edit_of, taken_by, id_in, with_rowid, next_rowid, without_all, is_taken, all_from, all_has, has_kept, has_filtered, int_is, tied_same, Database, IsSound, value_rows, Tally, Does, AtPlace, OnRows, State, mode_of, Executes, understood, IsPlain as IsPlainText, InsertOr, Error, one_step, runs_as, command_of, statement_of, one_permutation}
use Rattle.std.specs.Prelude.{bytes_eq}
use Rattle.sqlite_schema.specs.declared.schema.Index.{Index}
use Rattle.sqlite_schema.specs.declared.command.Conflict.TheVariants.{Abort}
use Rattle.sqlite_schema.specs.declared.command.Upsert.{Upsert}
use Rattle.sqlite_rules.specs.Keys.{shares, conflicts, AreConflicts}
use Rattle.sqlite_rules.proofs.ActionLemmas.{no_works}
use Rattle.sqlite.specs.Rows.{Task, Written, Puts, Clears, Tries, TriesEach, Updates, Upserts, Meets, Edited, CountsIn, stamped, shown, nothing, count_of, rowids_for, sequence}
use Rattle.sqlite.specs.Source.TheVariants.{Values}
use Rattle.adr_sql.specs.Keys.{key_order, has_key, with_row}
use Rattle.adr_sql.specs.Contents.{Contents, rows_of_table, with_table, Stores, StoresEach, Holds}
use Rattle.adr_sql.proofs.Keys.{same_bool, equal_is, agree_is, places_from, ties, and_true}
use Rattle.adr_sql.proofs.Rows.{stores_put, key_order_total}
use Rattle.adr_sql.proofs.Places.{LeavesOthers, IsFound, stores_at, stores_with_table}
use Rattle.adr_sql.proofs.References.{is_unfollowed, no_follow, went, same_value, cast_null, cast_int}
use Rattle.adr_sql.proofs.Selections.{selection, passes, IsAnsweredBy, answered}
use Rattle.adr_sql.proofs.Removals.{by_rowid, taken_out}
use Rattle.adr_sql.proofs.Values.{AreValues, fit_kept}
use Rattle.std.proofs.lemmas.List.Elements.{filter_passes, recursion_from_All}

-- ---- the rows with a key are at most one

few_tied : (n : ℕ) (key : Row) (rows : List Row) → IsAscending (λ a b. key_order n a b ≡ Less) rows → AllByRecursion (λ row. has_key n key row ≡ true) rows → length rows ≤ 1
few_tied n key [] up same = omega arith
few_tied n key (x ∷ []) up same = omega arith
few_tied n key (x ∷ y ∷ rows) up same =
    let apart : key_order n key y ≡ Less = (key_order_total n).congr key x y (ties _ same.0) ∙ up.0.0 in
    absurd (let tie = ties _ same.1.0 in let less = apart in cc)

-- so are the stored rows with the key
few : (n width : ℕ) (key : Row) (stored rows : List Row) → Stores n width stored rows → length (filter (λ r. has_key n key (drop 1 r)) stored) ≤ 1
few n width key stored rows h =
    let bare : length (filter (λ r. has_key n key (drop 1 r)) stored) ≡ length (filter (has_key n key) (map (drop 1) stored)) = sym (length-map _ _) ∙ ap length (sym (filter-map (has_key n key) (drop 1) stored)) in
    let held : length (filter (has_key n key) (map (drop 1) stored)) ≡ length (filter (has_key n key) rows) = length_permutation _ _ (IsPermutation-filter (has_key n key) _ _ h.same) in
    let most = few_tied n key (filter (has_key n key) rows) (ascending-filter _ (has_key n key) rows h.rising) (recursion_from_All _ _ (filter_passes (has_key n key) rows)) in
    omega (arith, bare, held, most)

single : (xs : List Row) (r : Row) → Has xs r → length xs ≤ 1 → xs ≡ r ∷ []
single [] r h few = absurd h
single (x ∷ []) r (inl e) few = ap (λ y. y ∷ []) (sym e)
single (x ∷ []) r (inr h) few = absurd h
single (x ∷ y ∷ xs) r h few = absurd (omega arith)

only : {X : Type 0} (r x : X) → Has (r ∷ []) x → x ≡ r
only r x (inl e) = e
only r x (inr h) = absurd h

-- ---- the table and the text

-- the row that the new one meets, by its rowid, which stands behind the parameters
abbrev pub is_met : ℕ → Term
is_met place = op2 (Compare Eq Binary) (col 1 0) (col 0 place)

-- the query that finds it, and what is set
abbrev pub setting : Table → ℕ → List Term → Query
setting table place sets = selection table.tree end (is_met place ∷ []) (col 1 0 ∷ col 1 0 ∷ sets) []

abbrev pub on_key : Table → ℕ → List Term → Upsert
on_key table place sets = record { target = Some (places_from 0 (length table.primary)); update = Some (record { lets = []; body = setting table place sets }) }

abbrev aims : Table → Index → Bool
aims table i = guards i table && bytes_eq (places_from 0 (length table.primary)) i.columns

-- what `refl` finds of a table whose rows are written over by key
pub record IsKeyed (schema : Schema) (at : ℕ) (table : Table) : Type 0 where
  pub place : IsFound schema at table
  pub unfollowed : is_unfollowed schema table.tree ≡ true
  pub uncounted : table.is_counted ≡ false
  pub unnumbered : bytes_eq (places_from 0 (length table.primary)) (0 ∷ []) ≡ false
  pub index : Index
  pub aimed : filter (aims table) schema.indexes ≡ index ∷ []
  pub order : index.order ≡ plain
  pub places : index.columns ≡ places_from 0 (length table.primary)

-- what `refl` finds of a text that puts a row, at any parameters: behind them stand the rowid of the row that is met, and then the new
-- row with its rowid
pub record IsUpsertText (schema : Schema) (at : ℕ) (table : Table) (sql : List ℕ) (params row : Row) : Type 0 where
  pub terms : List Term
  pub met : ℕ
  pub sets : List Term
  pub command : command_of (understood schema sql) ≡ InsertOr at Abort (Values terms (suc (length table.columns))) (on_key table met sets ∷ [])
  pub alone : IsPlainText (understood schema sql)
  pub given : value_rows (stamped table params) (suc (length table.columns)) (length terms / suc (length table.columns)) terms ≡ (Null ∷ row) ∷ []
  pub meets : (id next : ℤ) (r : Row) → holds ((params ++ Int id ∷ shown table (Int next ∷ row)) ∷ r ∷ []) (is_met met) ≡ equal Binary (rowid r) (Int id)
  pub writes : (id next : ℤ) (r : Row) → eval_all sets ((params ++ Int id ∷ shown table (Int next ∷ row)) ∷ r ∷ []) ≡ row

-- ---- what the clause finds

any_aimed : (g a f : Index → Bool) (xs : List Index) → list_any (λ i. g i && a i && f i) xs ≡ list_any f (filter (λ i. g i && a i) xs)
any_aimed g a f [] = refl
any_aimed g a f (x ∷ xs) = go (g x) (a x) (any_aimed g a f xs)
  where
    go : (p q : Bool) → list_any (λ i. g i && a i && f i) xs ≡ list_any f (filter (λ i. g i && a i) xs)
        → ((p && q && f x) || list_any (λ i. g i && a i && f i) xs) ≡ list_any f (cond (p && q) (x ∷ filter (λ i. g i && a i) xs) (filter (λ i. g i && a i) xs))
    go true true more = ap (λ b. f x || b) more
    go true false more = more
    go false true more = more
    go false false more = more

or_none : (b : Bool) → (b || false) ≡ b
or_none true = refl
or_none false = refl

module _ (schema : Schema) (at : ℕ) (table : Table) (it : IsKeyed schema at table) (row : Row) (are : AreValues table row) where
  abbrev n : ℕ
  n = length table.primary

  abbrev width : ℕ
  width = length table.columns

  abbrev key : Row → Bool
  key r = has_key n row (drop 1 r)

  -- what is left of a write: the row is in its place, and the other tables are as they were
  abbrev IsPut : Trees → Trees → List Row → Type 0
  IsPut db next rows = Stores n width (next table.tree) (with_row n row rows) × LeavesOthers schema.tables table.tree db next

  abbrev as_cast : (id : ℤ) → cast_row table (Int id ∷ row) ≡ Int id ∷ row
  as_cast id = ap₂ ◌∷◌ (cast_int id) (fit_kept table.columns row are.fits)

  -- a row meets the clause if it has the key
  meets_is : (id : ℤ) (r : Row) → conflicts (Some (places_from 0 n)) schema.indexes table (Int id ∷ row) r ≡ key r
  meets_is id r =
      let shared : list_any (shares (Some (places_from 0 n)) table (Int id ∷ row) r) schema.indexes ≡ agree plain (places_from 0 n) r (places_from 0 n) (Int id ∷ row) =
      any_aimed (λ i. guards i table) (λ i. bytes_eq (places_from 0 n) i.columns) (λ i. agree i.order i.columns r i.columns (Int id ∷ row)) schema.indexes ∙ ap (list_any (λ i. agree i.order i.columns r i.columns (Int id ∷ row))) it.aimed
      ∙ or_none _ ∙ rw (it.order, it.places) refl in
      rw it.unnumbered (shared ∙ agree_is n r (Int id ∷ row) are.full)

  -- the one row with the key is written anew, under its rowid
  written_anew : (id : ℤ) (r : Row) (db next : Trees) (rows : List Row) → filter key (db table.tree) ≡ r ∷ [] → rowid r ≡ Int id → Stores n width (db table.tree) rows
      → Edited schema Enforced db (edit_of db table (id ∷ []) Given 1 ((Int id ∷ Int id ∷ row) ∷ [])) (Ok next) → IsPut db next rows
  written_anew id r db next rows found named was h =
      let edit : Edit = edit_of db table (id ∷ []) Given 1 ((Int id ∷ Int id ∷ row) ∷ []) in
      let stored : List Row = db table.tree in
      let a = one_step schema Enforced db next edit (no_follow schema 0 table.tree it.unfollowed Enforced (taken_by db edit) (cast_row table (Int id ∷ row))) h in
      let there : Has stored r × (key r ≡ true) = has_filtered key stored r (subst (λ l. Has l r) (sym found) (inl refl)) in
      let left : without_all stored (id ∷ []) ≡ filter (λ r. not (key r)) stored =
      taken_out key stored (id ∷ []) was.listed (λ i has. (r, there.0, there.1, named ∙ ap Int (sym (only id i has)))) (λ x has is. by_rowid x id (id ∷ []) (ap rowid (only r x (subst (λ l. Has l x) found (has_kept key stored x has is))) ∙ named) (inl refl)) in
      let free : is_taken (filter (λ r. not (key r)) stored) (Int id ∷ row) ≡ false = ap₂ is_taken (sym left) (sym (as_cast id)) ∙ not-true _ (and_parts _ _ a.fresh).0 in
      let now : next table.tree ≡ put_row (Int id ∷ row) (filter (λ r. not (key r)) stored) = a.rows ∙ ap₂ put_row (as_cast id) left in
      (subst (λ rs. Stores n width rs (with_row n row rows)) (sym now) (stores_put n width (Int id ∷ row) stored rows are.width refl free was), a.tables)

  module _ (limit : Option ℕ) (params : Row) where
    abbrev task : Task
    task = record { limit = limit; keys = Enforced; schema = schema; table = table; params = params }

    -- no row has the key: the new one goes in under a free rowid
    put_new : (id : ℤ) (db : Trees) (rows : List Row) (out : Written) → Stores n width (db table.tree) rows → ((r : Row) → Has (db table.tree) r → key r ≡ false) → Puts task (Int id ∷ row) db (Ok out) → IsPut db out.trees rows
    put_new id db rows out was none h =
        let made = went h in
        let edit : Edit = edit_of db table [] Given 0 ((Int id ∷ row) ∷ []) in
        let a = one_step schema Enforced db made.0 edit (no_works schema Enforced 0 table.tree edit.news) made.1 in
        let out_is : out.trees ≡ made.0 = ap (λ (w : Written). w.trees) (same_value made.2) in
        let all_stay : filter (λ r. not (key r)) (db table.tree) ≡ db table.tree = filter_all _ (db table.tree) (all_from _ (db table.tree) (λ r has. ap not (none r has))) in
        let free : is_taken (filter (λ r. not (key r)) (db table.tree)) (Int id ∷ row) ≡ false = ap₂ is_taken all_stay (sym (as_cast id)) ∙ not-true _ (and_parts _ _ a.fresh).0 in
        let now : made.0 table.tree ≡ put_row (Int id ∷ row) (filter (λ r. not (key r)) (db table.tree)) = a.rows ∙ ap₂ put_row (as_cast id) (sym all_stay) in
        (subst (λ rs. Stores n width rs (with_row n row rows)) (sym now ∙ ap (λ (t : Trees). t table.tree) (sym out_is)) (stores_put n width (Int id ∷ row) (db table.tree) rows are.width refl free was), rw out_is a.tables)

    -- a row has the key: it is set to the new one
    set_old : (met : ℕ) (sets : List Term) (next : ℤ) → ((id : ℤ) (r : Row) → holds ((params ++ Int id ∷ shown table (Int next ∷ row)) ∷ r ∷ []) (is_met met) ≡ equal Binary (rowid r) (Int id))
        → ((id : ℤ) (r : Row) → eval_all sets ((params ++ Int id ∷ shown table (Int next ∷ row)) ∷ r ∷ []) ≡ row)
        → (r : Row) (db : Trees) (rows : List Row) (out : Written) → Has (db table.tree) r → key r ≡ true → Stores n width (db table.tree) rows
        → Updates task (record { lets = []; body = setting table met sets }) (params ++ rowid r ∷ shown table (Int next ∷ row)) db (Ok out) → IsPut db out.trees rows
    set_old met sets next meets writes r db rows out has is was h =
        let id : ℤ = id_in (rowid r) in
        let stored : List Row = db table.tree in
        let named : rowid r ≡ Int id = int_is (rowid r) (all_has _ stored r was.numbered has) in
        let given : Row = params ++ rowid r ∷ shown table (Int next ∷ row) in
        let given_is : given ≡ params ++ Int id ∷ shown table (Int next ∷ row) = ap (λ v. params ++ v ∷ shown table (Int next ∷ row)) named in
        let queried = went h in
        let made = went queried.2 in
        let out_is : out.trees ≡ made.0 = ap (λ (w : Written). w.trees) (same_value made.2) in
        let one : filter key stored ≡ r ∷ [] = single (filter key stored) r (has_kept key stored r has is) (few n width row stored rows was) in
        let met_is : filter (passes given (is_met met ∷ [])) stored ≡ filter key stored =
        filter_same _ _ stored (all_from _ stored (λ x there.
        ap (λ p. passes p (is_met met ∷ []) x) given_is ∙ and_true _ ∙ meets id x ∙ equal_is (rowid x) (Int id) refl
        ∙ same_bool _ _ (λ tie. ap key (tied_same stored x r was.listed there has (ap (value_cmp (rowid x)) named ∙ tied_back value_cmp_total (Int id) (rowid x) (ties _ tie))) ∙ is)
        (λ k. ap (λ y. is_eq (value_cmp (Int id) (rowid y))) (only r x (subst (λ l. Has l x) one (has_kept key stored x there k))) ∙ ap (λ v. is_eq (value_cmp (Int id) v)) named ∙ ap is_eq (tied_itself value_cmp_total (Int id))))) in
        let a = answered db table.tree end (is_met met ∷ []) given refl (col 1 0 ∷ col 1 0 ∷ sets) queried.0 queried.1.answer in
        let alone : IsAnsweredBy db end (setting table met sets) (r ∷ []) given queried.0 = subst (λ f. IsAnsweredBy db end (setting table met sets) f given queried.0) (met_is ∙ one) a in
        let rows_are : queried.0 ≡ (Int id ∷ Int id ∷ row) ∷ [] =
        alone.shows ∙ ap (map (λ (o : Output). o.1)) (one_permutation _ _ alone.same) ∙ ap (λ l. l ∷ []) (ap₂ (λ v l. v ∷ v ∷ l) named (ap (λ p. eval_all sets (p ∷ r ∷ [])) given_is ∙ writes id r)) in
        let end = written_anew id r db made.0 rows one named was (subst (λ l. Edited schema Enforced db (edit_of db table (ids_of l) Given 1 l) (Ok made.0)) rows_are made.1) in
        subst (λ (t : Trees). IsPut db t rows) (sym out_is) end

    upserted : (met : ℕ) (sets : List Term) → ((id next : ℤ) (r : Row) → holds ((params ++ Int id ∷ shown table (Int next ∷ row)) ∷ r ∷ []) (is_met met) ≡ equal Binary (rowid r) (Int id))
        → ((id next : ℤ) (r : Row) → eval_all sets ((params ++ Int id ∷ shown table (Int next ∷ row)) ∷ r ∷ []) ≡ row)
        → (id : ℤ) (db : Trees) (rows : List Row) (out : Written) → Stores n width (db table.tree) rows → Tries task Abort (on_key table met sets ∷ []) (Int id ∷ row) db (Ok out) → IsPut db out.trees rows
    upserted met sets meets writes id db rows out was (inl h) = absurd (let e = h.1 in cc)
    upserted met sets meets writes id db rows out was (inr (Some why, judged, h)) = absurd (let e = h in cc)
    upserted met sets meets writes id db rows out was (inr (None, judged, (found, c, h))) = go found c h
      where
        puts : (rest : List Row) → Clears task Abort (Int id ∷ row) db rest (Ok out) → Puts task (Int id ∷ row) db (Ok out)
        puts [] h = h
        puts (x ∷ rest) h = h

        go : (found : List Row) → AreConflicts (Some (places_from 0 n)) schema.indexes table (db table.tree) (Int id ∷ row) found
            → Meets task (Upserts task Abort (Int id ∷ row) db []) (Int id ∷ row) db (on_key table met sets) found (Ok out) → IsPut db out.trees rows
        go [] c h = put_new id db rows out was (λ r has. false_from_ne_true _ (λ k. absurd (c.complete r has (meets_is id r ∙ k)))) (puts h.0 h.2)
        go (there ∷ more) c h =
            let s = c.sound there (inl refl) in
            let from : rowid there ≡ rowid s.0 = ap rowid s.3 in
            set_old met sets id (λ i r. meets i id r) (λ i r. writes i id r) s.0 db rows out s.1 (sym (meets_is id s.0) ∙ s.2) was
            (subst (λ v. Updates task (record { lets = []; body = setting table met sets }) (params ++ v ∷ shown table (Int id ∷ row)) db (Ok out)) from h)

-- ---- the statement

module _ (schema : Schema) (at : ℕ) (table : Table) (it : IsKeyed schema at table) (sql : List ℕ) (params row : Row) (text : IsUpsertText schema at table sql params row) (are : AreValues table row) where
  pub upsert_runs : (old new : State) (count : ℕ) (all : Contents) → Executes sql params old new (Ok count) → Holds schema all old
      → Holds schema (with_table all at (with_row (length table.primary) row (rows_of_table all at))) new
  upsert_runs old new count all h was =
      let has = was.has in
      let db = old.now.trees in
      let from = Values text.terms (suc (length table.columns)) in
      let clauses = on_key table text.met text.sets ∷ [] in
      let command = InsertOr at Abort from clauses in
      let w = runs_as sql params old new schema has command text.command text.alone count h in
      let words = statement_of sql (understood schema sql) in
      let task : Task = record { limit = old.step_limit; keys = Enforced; schema = schema; table = table; params = params } in
      let does = subst (λ s. Does old.step_limit (mode_of old) params (record old.now { schema = s }) words None command (Ok (w.tally, new.now))) has w.changed in
      let done = went (subst (λ o. AtPlace (λ t. OnRows (record task { table = t }) (mode_of old) None command db) o (Ok (w.tally, new.now))) it.place.found does) in
      let now : new.now ≡ record { schema = schema; trees = done.0.trees } = ap (λ (p : Tally × Database). p.1) (same_value (went (went done.2).2).2) in
      let given = went done.1 in
      let counted = went given.2 in
      let tried_all = went counted.2 in
      let ended = went tried_all.2 in
      let one = went (subst (λ rows. TriesEach task Abort clauses rows (count_of counted.0) (nothing db) (Ok tried_all.0)) (given.1.1 ∙ text.given) tried_all.1) in
      let top = count_of counted.0 in
      let new_is : with_rowid (rowids_for table top) (db table.tree) (cast_row table (Null ∷ row)) ≡ Int (next_rowid (db table.tree)) ∷ row =
      ap (λ c. with_rowid (cond c (Above top) Chosen) (db table.tree) (cast_row table (Null ∷ row))) it.uncounted ∙ ap (with_rowid Chosen (db table.tree)) (ap₂ ◌∷◌ cast_null (fit_kept table.columns row are.fits)) in
      let still : Ok ended.0 ≡ Ok tried_all.0.0.trees =
      subst (λ c. MatchBool (cond c (is_lt (int_cmp top tried_all.0.1)) false) (CountsIn task tried_all.0.0.trees counted.0 tried_all.0.1 (sequence schema) (Ok ended.0)) (◌≡◌ {A = Result Trees (Option Error)} (Ok ended.0) (Ok tried_all.0.0.trees))) it.uncounted ended.1 in
      let trees : done.0.trees ≡ one.0.trees = ap (λ (w : Written). w.trees) (same_value ended.2) ∙ same_value still ∙ ap (λ (p : Written × ℤ). p.0.trees) (same_value one.2) in
      let put_in = upserted schema at table it row are old.step_limit params text.met text.sets text.meets text.writes (next_rowid (db table.tree)) db (rows_of_table all at) one.0
      (stores_at schema.tables at table db all it.place.found was.each) (subst (λ r. Tries task Abort clauses r db (Ok one.0)) new_is one.1) in
      record {
        has = ap (λ (d : Database). d.schema) now;
        sound = subst (λ s. IsSound s new.now.trees) (ap (λ (d : Database). d.schema) now) w.sound;
        each = subst (λ d. StoresEach schema.tables d (with_table all at (with_row (length table.primary) row (rows_of_table all at)))) (sym (ap (λ (d : Database). d.trees) now ∙ trees))
            (stores_with_table schema.tables at table db one.0.trees all _ it.place.found it.place.alone put_in.1 put_in.0 was.each);
      }
