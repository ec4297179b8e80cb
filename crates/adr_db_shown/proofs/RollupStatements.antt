-- The statements on the table `rollup`.
use Rattle.std.proofs.Common.{◌≡◌, ℕ, List, [], ◌∷◌, codes, refl}
use Rattle.adr_db.proofs.Common.{column, Null, lit, col, end, understood, everything, AreValues, IsUpsertText, IsRemoveText, IsSelectText, whole_rows, equalities}
use Rattle.adr_db.specs.declared.shown.RollupColumns.{RollupColumns}
use Rattle.adr_db.specs.Tables.{schema}
use Rattle.adr_db.specs.Rows.{rollup_columns, rollup_row}
use Rattle.adr_db.specs.ReadBack.{text_of}
use Rattle.adr_db.proofs.Tables.{rollup}
use Rattle.adr_db_shown.specs.declared.rollup.TheConstants.{PUT, REMOVE, READ_ONE}

pub puts : (e : List ℕ × RollupColumns) → IsUpsertText schema 13 rollup PUT.now (rollup_row e) (rollup_row e)
unfolding understood everything
puts e = record { terms = lit Null ∷ col 0 0 ∷ col 0 1 ∷ col 0 2 ∷ []; met = 3; sets = col 0 5 ∷ col 0 6 ∷ col 0 7 ∷ []; command = refl; alone = (refl, refl); given = refl; meets = λ id next r. refl; writes = λ id next r. refl }

pub fit : (e : List ℕ × RollupColumns) → AreValues rollup (rollup_row e)
fit e = record { fits = refl; full = refl; width = refl }

pub removes : IsRemoveText schema 13 rollup end (equalities 0 1) REMOVE.now
unfolding understood everything
removes = record { command = refl; alone = (refl, refl); flat = refl; joins = refl }

pub reads_one : IsSelectText schema rollup (whole_rows 1 rollup) end READ_ONE.now
unfolding understood everything
reads_one = record { names = codes "event" ∷ codes "program" ∷ codes "body" ∷ []; command = refl; alone = (refl, refl); unlisted = refl; from = refl; order = refl; ungrouped = refl; undistinct = refl; joins = refl; sorts = refl; shows = refl }

pub columns_kept : (a b : RollupColumns) → rollup_columns a ≡ rollup_columns b → a ≡ b
columns_kept a b h = λ i. record { program = text_of (column (h i) 0); body = text_of (column (h i) 1) }
