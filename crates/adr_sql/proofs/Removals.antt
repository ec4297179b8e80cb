-- DELETE of the rows that pass, in a table to which no reference points. Its tests may ask whether another table has a row.
use Rattle.std.proofs.Common.{◌≡◌, ℕ, zero, ℤ, pos, min, Bool, true, false, not, List, [], ◌∷◌, ◌++◌, map, filter, drop, length, None, Ok, IsTrue, refl, sym, ap, subst, ◌∙◌, is_eq, IsPermutation}
use Rattle.adr_sql.proofs.Common.{AllByRecursion, list_all, list_any, and_parts, tied_itself, length-map, IsPermutation-map, IsPermutation-sym, Contains-permutation, length_permutation, Null, Int, Row, column, value_cmp, value_cmp_total, Trees, rowid, has_rowid, IsTable, is_int, filter_same, map-map, Enforced, Table, Schema, Given, Has, ids_of, Edit, edit_of, taken_by, id_in, without_all, Writes, all_from, all_has, has_filtered, has_kept, has_contained, contains_had, some_has, some_from, int_is, tied_same, Term, Env, col, holds, Query, Join, counted, end, matches, Output, output, IsSureAnswer, overlay, Database, IsDatabase, IsSound, Tally, Does, AtPlace, OnRows, State, mode_of, Executes, understood, IsPlain as IsPlainText, Delete, one_step, runs_as, command_of, statement_of}
use Rattle.sqlite_rules.proofs.ProbeLemmas.{mapped_has, has_mapped}
use Rattle.sqlite.specs.Rows.{Task, Written}
use Rattle.adr_sql.specs.Keys.{rows_without}
use Rattle.adr_sql.specs.Contents.{Contents, rows_of_table, with_table, Stores, StoresEach, Holds}
use Rattle.adr_sql.proofs.Keys.{same_bool, are_full, ties}
use Rattle.adr_sql.proofs.Rows.{without_all_is, stores_filter}
use Rattle.adr_sql.proofs.Places.{IsFound, is_tree, bare, seen, stored_is_seen, stores_at, stores_with_table}
use Rattle.adr_sql.proofs.References.{is_childless, no_work, went, same_value}
use Rattle.adr_sql.proofs.Joins.{erased, fair, sees, holds_same, erased_more, longer}
use Rattle.adr_sql.proofs.Selections.{grown, is_flat, slot_kept, selection, is_found, answered, equalities, passes_is}

pub has_along : {X : Type 0} (xs ys : List X) (x : X) → IsPermutation xs ys → Has xs x → Has ys x
has_along xs ys x same h = has_contained ys x (Contains-permutation xs ys x same (contains_had xs x h))

-- a row goes by its own rowid
pub by_rowid : (r : Row) (id : ℤ) (ids : List ℤ) → rowid r ≡ Int id → Has ids id → list_any (λ i. has_rowid i r) ids ≡ true
by_rowid r id ids is has = some_from (λ i. has_rowid i r) ids id has (ap (λ v. is_eq (value_cmp v (Int id))) is ∙ ap is_eq (tied_itself value_cmp_total (Int id)))

-- to take out the rowids of the rows that pass is to filter those out
pub taken_out : (p : Row → Bool) (rows : List Row) (ids : List ℤ) → IsTable rows → ((id : ℤ) → Has ids id → (r : Row) × Has rows r × (p r ≡ true) × (rowid r ≡ Int id))
    → ((r : Row) → Has rows r → p r ≡ true → list_any (λ id. has_rowid id r) ids ≡ true) → without_all rows ids ≡ filter (λ r. not (p r)) rows
taken_out p rows ids up sound complete = without_all_is ids rows ∙ filter_same _ _ rows (all_from _ rows (λ r has. ap not (same_bool _ _ (there r has) (complete r has))))
  where
    there : (r : Row) → Has rows r → list_any (λ id. has_rowid id r) ids ≡ true → p r ≡ true
    there r has some =
        let id = some_has _ ids some in
        let s = sound id.0 id.1 in
        ap p (tied_same rows r s.0 up has s.1 (ap (value_cmp (rowid r)) s.3 ∙ ties _ id.2)) ∙ s.2

-- the query that finds the rowids of the rows to remove
abbrev pub finding : ℕ → Join → List Term → Query
finding tree rest terms = selection tree rest terms (col 1 0 ∷ []) []

module _ (db : Trees) (tree : ℕ) (rest : Join) (terms : List Term) (params : Row) (rows : List Row) (flat : is_flat rest ≡ true) (sure : IsSureAnswer (finding tree rest terms) (overlay db []) params rows)
    (numbered : AllByRecursion (λ r. IsTrue (is_int (rowid r))) (db tree)) where
  abbrev p : Row → Bool
  p = is_found db rest terms params

  -- it finds the rowids of the rows that pass
  same : IsPermutation (map (λ r. rowid r ∷ []) (filter p (db tree))) rows
  same =
      let a = answered db tree rest terms params flat (col 1 0 ∷ []) rows sure in
      let show : Row → Output = λ r. output (finding tree rest terms) (grown db rest (params ∷ r ∷ [])) in
      subst (λ l. IsPermutation l rows) (map-map (λ (o : Output). o.1) show _ ∙ ap (λ (f : Row → Row). map f (filter p (db tree))) (λ i r. column (slot_kept db rest params r [] i) 0 ∷ []))
      (subst (IsPermutation _) (sym a.shows) (IsPermutation-map (λ (o : Output). o.1) _ _ a.same))

  named : (r : Row) → Has (db tree) r → rowid r ≡ Int (id_in (rowid r))
  named r has = int_is (rowid r) (all_has _ (db tree) r numbered has)

  -- each rowid that was found is that of a row that passes
  pub chosen_from : (id : ℤ) → Has (ids_of rows) id → (r : Row) × Has (db tree) r × (is_found db rest terms params r ≡ true) × (rowid r ≡ Int id)
  chosen_from id h =
      let x = has_mapped (λ y. id_in (rowid y)) rows id h in
      let r = has_mapped (λ r. rowid r ∷ []) (filter p (db tree)) x.0 (has_along _ _ x.0 (IsPermutation-sym _ _ same) x.1) in
      let f = has_filtered p (db tree) r.0 r.1 in
      (r.0, f.0, f.1, named r.0 f.0 ∙ ap Int (sym (x.2 ∙ ap (λ y. id_in (rowid y)) r.2)))

  complete : (r : Row) → Has (db tree) r → p r ≡ true → list_any (λ id. has_rowid id r) (ids_of rows) ≡ true
  complete r has pass =
      by_rowid r _ _ (named r has) (mapped_has (λ y. id_in (rowid y)) rows (rowid r ∷ []) (has_along _ _ _ same (mapped_has (λ r. rowid r ∷ []) (filter p (db tree)) r (has_kept p (db tree) r has pass))))

  pub chosen : IsTable (db tree) → without_all (db tree) (ids_of rows) ≡ filter (λ r. not (is_found db rest terms params r)) (db tree)
  chosen up = taken_out p (db tree) (ids_of rows) up chosen_from complete

module _ (db them : Trees) (known : ℕ → Bool) (same : (t : ℕ) → known t ≡ true → IsPermutation (map bare (db t)) (them t)) where
  -- the test is the same of the rows without their rowids
  grown_same : (rest : Join) (ks : List Bool) (terms : List Term) (env : Env) → length ks ≡ length env → is_flat rest ≡ true → fair known ks terms rest ≡ true
      → list_all (holds (grown db rest env)) terms ≡ list_all (holds (grown them rest (erased ks env))) terms
  grown_same end ks terms env len flat ok = holds_same ks terms env ok
  grown_same (counted most from test more) ks terms env len flat ok =
      let p = and_parts _ _ ok in
      let few = length_permutation _ _ (sees db them known same (λ e. zero) from ks test env len p.0 (λ e. refl)) in
      let many : length (matches db test from env) ≡ length (matches them test from (erased ks env)) = sym (sym (length-map _ _) ∙ few ∙ length-map _ _) in
      let r : Row = Int (pos (min most (length (matches db test from env)))) ∷ [] in
      grown_same more (ks ++ false ∷ []) terms (env ++ r ∷ []) (longer ks env false r len) flat p.1
      ∙ ap (λ e. list_all (holds (grown them more e)) terms) (erased_more ks false env r len ∙ ap (λ n. erased ks env ++ (Int (pos (min most n)) ∷ []) ∷ []) many)
  grown_same _ ks terms env len flat ok = absurd cc

-- what `refl` finds of a text that removes rows
pub record IsRemoveText (schema : Schema) (at : ℕ) (table : Table) (rest : Join) (terms : List Term) (sql : List ℕ) : Type 0 where
  pub command : command_of (understood schema sql) ≡ Delete at (record { lets = []; body = finding table.tree rest terms })
  pub alone : IsPlainText (understood schema sql)
  pub flat : is_flat rest ≡ true
  pub joins : fair (is_tree schema.tables) (false ∷ true ∷ []) terms rest ≡ true

-- what a statement that removes rows does: it finds rows, and takes them out with what that sets off
pub record Removal (schema : Schema) (table : Table) (rest : Join) (terms : List Term) (params : Row) (old new : State) : Type 0 where
  pub rows : List Row
  pub found : IsSureAnswer (finding table.tree rest terms) (overlay old.now.trees []) params rows
  pub end : Trees
  pub writes : Writes schema Enforced old.now.trees (edit_of old.now.trees table (ids_of rows) Given 0 []) (Ok end)
  pub now : new.now ≡ record { schema = schema; trees = end }
  pub sound : IsDatabase new.now

module _ (schema : Schema) (at : ℕ) (table : Table) (it : IsFound schema at table) (rest : Join) (terms : List Term) (sql : List ℕ) (params : Row) (text : IsRemoveText schema at table rest terms sql) where
  pub removal : (old new : State) (count : ℕ) → Executes sql params old new (Ok count) → old.now.schema ≡ schema → Removal schema table rest terms params old new
  removal old new count h has =
      let db = old.now.trees in
      let command = Delete at (record { lets = []; body = finding table.tree rest terms }) in
      let w = runs_as sql params old new schema has command text.command text.alone count h in
      let words = statement_of sql (understood schema sql) in
      let task : Task = record { limit = old.step_limit; keys = Enforced; schema = schema; table = table; params = params } in
      let does = subst (λ s. Does old.step_limit (mode_of old) params (record old.now { schema = s }) words None command (Ok (w.tally, new.now))) has w.changed in
      let done = went (subst (λ o. AtPlace (λ t. OnRows (record task { table = t }) (mode_of old) None command db) o (Ok (w.tally, new.now))) it.found does) in
      let now : new.now ≡ record { schema = schema; trees = done.0.trees } = ap (λ (p : Tally × Database). p.1) (same_value (went (went done.2).2).2) in
      let queried = went done.1 in
      let made = went queried.2 in
      let trees : done.0.trees ≡ made.0 = ap (λ (w : Written). w.trees) (same_value made.2) in
      record { rows = queried.0; found = queried.1.answer; end = made.0; writes = made.1; now = now ∙ ap (λ (t : Trees). record { schema = schema; trees = t }) trees; sound = w.sound }

module _ (schema : Schema) (at : ℕ) (table : Table) (it : IsFound schema at table) (childless : is_childless schema table.tree ≡ true) (rest : Join) (terms : List Term) (sql : List ℕ) (params : Row)
    (text : IsRemoveText schema at table rest terms sql) where
  -- whether a row goes
  abbrev pub goes : Contents → Row → Bool
  goes all row = is_found (seen schema.tables all) rest terms params (Null ∷ row)

  pub remove_runs : (old new : State) (count : ℕ) (all : Contents) → Executes sql params old new (Ok count) → Holds schema all old
      → Holds schema (with_table all at (filter (λ row. not (goes all row)) (rows_of_table all at))) new
  remove_runs old new count all h was =
      let db = old.now.trees in
      let left = filter (λ row. not (goes all row)) (rows_of_table all at) in
      let gone = removal schema at table it rest terms sql params text old new count h was.has in
      let edit : Edit = edit_of db table (ids_of gone.rows) Given 0 [] in
      let a = one_step schema Enforced db gone.end edit (no_work schema 0 table.tree childless Enforced (taken_by db edit) edit.news) gone.writes in
      let here = stores_at schema.tables at table db all it.found was.each in
      let known : (t : ℕ) → is_tree schema.tables t ≡ true → IsPermutation (map bare (db t)) (seen schema.tables all t) = λ t is. stored_is_seen schema.tables db all t was.each is in
      let rows : gone.end table.tree ≡ filter (λ r. not (goes all (drop 1 r))) (db table.tree) =
      a.rows ∙ chosen db table.tree rest terms params gone.rows text.flat gone.found here.numbered here.listed
      ∙ ap (λ (f : Row → Bool). filter f (db table.tree)) (λ i r. not (grown_same db (seen schema.tables all) (is_tree schema.tables) known rest (false ∷ true ∷ []) terms (params ∷ r ∷ []) refl text.flat text.joins i)) in
      let kept : Stores (length table.primary) (length table.columns) (gone.end table.tree) left =
      subst (λ stored. Stores (length table.primary) (length table.columns) stored left) (sym rows) (stores_filter _ _ (λ row. not (goes all row)) (db table.tree) (rows_of_table all at) here) in
      record {
        has = ap (λ (d : Database). d.schema) gone.now;
        sound = subst (λ s. IsSound s new.now.trees) (ap (λ (d : Database). d.schema) gone.now) gone.sound;
        each = subst (λ d. StoresEach schema.tables d (with_table all at left)) (sym (ap (λ (d : Database). d.trees) gone.now)) (stores_with_table schema.tables at table db gone.end all left it.found it.alone a.tables kept was.each);
      }

-- by the first k columns of the key, which are the parameters
module _ (schema : Schema) (at k : ℕ) (table : Table) (it : IsFound schema at table) (childless : is_childless schema table.tree ≡ true) (sql : List ℕ) (params : Row)
    (text : IsRemoveText schema at table end (equalities 0 k) sql) (full : are_full 0 k params ≡ true) where
  pub remove_at_runs : (old new : State) (count : ℕ) (all : Contents) → Executes sql params old new (Ok count) → Holds schema all old → Holds schema (with_table all at (rows_without k params (rows_of_table all at))) new
  remove_at_runs old new count all h was =
      subst (λ (p : Row → Bool). Holds schema (with_table all at (filter (λ row. not (p row)) (rows_of_table all at))) new) (λ i row. passes_is k params (Null ∷ row) full i)
      (remove_runs schema at table it childless end (equalities 0 k) sql params text old new count all h was)
