-- What a query over known tables answers in an order of its own.
use Rattle.std.proofs.Common.{◌≡◌, ℕ, true, false, List, [], ◌∷◌, map, None, refl, ap, subst, ◌∙◌, Less, IsPermutation}
use Rattle.adr_sql.proofs.Common.{IsPermutation-sym, IsPermutation-trans, Null, Row, Trees, IsAscending, Env, Query, matches, Output, output, output_cmp, IsAnswer, page, overlay, output_cmp_total, Schema, State, Shown, understood, reads_listing, IsPlain as IsPlainText, Select, command_of, reads_as}
use Rattle.sqlite_keyed.proofs.SortLemmas.{sorted_unique}
use Rattle.adr_sql.specs.Contents.{Contents, Holds}
use Rattle.adr_sql.proofs.Places.{is_tree, bare, seen, stored_is_seen}
use Rattle.adr_sql.proofs.Joins.{erased, slots, fair, sees, overlay_none}

-- what `refl` finds of the text of a query over known tables; what it shows reads no rowid
pub record IsSortedText (schema : Schema) (q : Query) (sql : List ℕ) : Type 0 where
  pub names : List (List ℕ)
  pub command : command_of (understood schema sql) ≡ Select (record { lets = []; body = q }) names
  pub alone : IsPlainText (understood schema sql)
  pub unlisted : reads_listing schema sql ≡ false
  pub ungrouped : q.group ≡ None
  pub undistinct : q.distinct ≡ false
  pub joins : fair (is_tree schema.tables) (false ∷ []) q.filter q.from ≡ true
  pub blind : (e : Env) → output q e ≡ output q (erased (slots (false ∷ []) q.from) e)

module _ (schema : Schema) (q : Query) (sql : List ℕ) (params : Row) (text : IsSortedText schema q sql) where
  -- what it finds in the contents of the tables
  abbrev pub found_in : Contents → List Output
  found_in all = map (output q) (matches (seen schema.tables all) q.filter q.from (params ∷ []))

  -- that is its answer, in the order of the query
  pub sorted_runs : (old new : State) (rows : List Row) (all : Contents) → Shown sql params old new rows → Holds schema all old
      → (ordered : List Output) → IsPermutation ordered (found_in all) → IsAscending (λ x y. output_cmp q x y ≡ Less) ordered → rows ≡ page q params (map (λ (o : Output). o.1) ordered)
  sorted_runs old new rows all h was ordered them up =
      let db = old.now.trees in
      let read = reads_as sql params old new schema was.has _ text.command text.alone text.unlisted rows h in
      let a : IsAnswer q (overlay db []) params rows = read.answer Null in
      let over : overlay db [] ≡ db = λ i t. overlay_none db t i in
      let kept : a.kept ≡ map (output q) (matches db q.filter q.from (params ∷ [])) =
      subst (λ b. Rattle.sqlite_sql.specs.Query.IsKept b q.collations (map (output q) a.staged) a.kept) text.undistinct a.distinct
      ∙ ap (map (output q)) (subst (λ g. Rattle.sqlite_sql.specs.Group.IsGrouped g params (matches (overlay db []) q.filter q.from (params ∷ [])) a.staged) text.ungrouped a.grouped ∙ ap (λ (d : Trees). matches d q.filter q.from (params ∷ [])) over) in
      let known : (t : ℕ) → is_tree schema.tables t ≡ true → IsPermutation (map bare (db t)) (seen schema.tables all t) = λ t is. stored_is_seen schema.tables db all t was.each is in
      let there = sees db (seen schema.tables all) (is_tree schema.tables) known (output q) q.from (false ∷ []) q.filter (params ∷ []) refl text.joins text.blind in
      let all_same : IsPermutation ordered a.ordered = IsPermutation-trans _ _ _ them (IsPermutation-trans _ _ _ (IsPermutation-sym _ _ there) (subst (λ l. IsPermutation l a.ordered) kept a.same)) in
      a.shown ∙ ap (λ os. page q params (map (λ (o : Output). o.1) os)) (sorted_unique (output_cmp q) (output_cmp_total q) _ _ up all_same a.sorted)
