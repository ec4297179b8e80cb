-- The statements on the table `mirror`.
use Rattle.std.proofs.Common.{ℕ, List, [], ◌∷◌, Option, None, Some, codes, refl}
use Rattle.sqlite.specs.Values.{or_null}
use Rattle.adr_db.proofs.Common.{Null, Text, Row, lit, col, end, understood, everything, AreValues, IsUpsertText, IsSelectText, first_columns, is_text, whole_rows}
use Rattle.adr_db_mirror.specs.declared.mirror.TheConstants.{PUT, READ_ONE, READ_OF}
use Rattle.adr_db.specs.Tables.{schema}
use Rattle.adr_db.specs.Rows.{number}
use Rattle.adr_db.proofs.Tables.{mirror}
use Rattle.adr_db.proofs.Maps.{mirror_map}

abbrev columns : List (List ℕ)
columns = codes "kind" ∷ codes "id" ∷ codes "state" ∷ codes "moment" ∷ codes "body" ∷ codes "program" ∷ []

module _ (kind : ℕ) (id : List ℕ) (state moment : ℕ) (body : List ℕ) (program : Option (List ℕ)) where
  abbrev pub row : Row
  row = number kind ∷ Text id ∷ number state ∷ number moment ∷ Text body ∷ or_null Text program ∷ []

  pub puts : IsUpsertText schema mirror_map.rows.at mirror PUT.now row row
  unfolding understood everything
  puts = record { terms = lit Null ∷ col 0 0 ∷ col 0 1 ∷ col 0 2 ∷ col 0 3 ∷ col 0 4 ∷ col 0 5 ∷ []; met = 6; sets = col 0 8 ∷ col 0 9 ∷ col 0 10 ∷ col 0 11 ∷ col 0 12 ∷ col 0 13 ∷ []; command = refl; alone = (refl, refl); given = refl; meets = λ id next r. refl; writes = λ id next r. refl }

  pub values : AreValues mirror row
  values = elim program as (λ program. AreValues mirror (number kind ∷ Text id ∷ number state ∷ number moment ∷ Text body ∷ or_null Text program ∷ [])) [
    | None ↦ record { fits = refl; full = refl; width = refl }
    | Some text ↦ record { fits = refl; full = refl; width = refl }
  ]

pub reads_one : IsSelectText schema mirror (whole_rows 2 mirror) end READ_ONE.now
unfolding understood everything
reads_one = record { names = columns; command = refl; alone = (refl, refl); unlisted = refl; from = refl; order = refl; ungrouped = refl; undistinct = refl; joins = refl; sorts = refl; shows = refl }

pub reads_of : IsSelectText schema mirror (first_columns 6 (is_text 0) mirror) end READ_OF.now
unfolding understood everything
reads_of = record { names = columns; command = refl; alone = (refl, refl); unlisted = refl; from = refl; order = refl; ungrouped = refl; undistinct = refl; joins = refl; sorts = refl; shows = refl }
