-- The statements on the table `sub`.
use Rattle.std.proofs.Common.{ℕ, None, Some, List, [], ◌∷◌, codes, refl}
use Rattle.adr_db.proofs.Common.{Null, Text, lit, col, end, understood, everything, AreValues, IsSelectText, first_columns, whole_rows, is_text, Sub}
use Rattle.adr_subscription.specs.Kept.{kept_text}
use Rattle.adr_db_portfolio.specs.declared.sub.TheConstants.{PUT, REMOVE, READ_ONE, READ_ALL, READ_OF}
use Rattle.adr_db.specs.Tables.{schema}
use Rattle.adr_db.specs.Rows.{number, owner_cell, sub_row}
use Rattle.adr_db.proofs.Tables.{sub}
use Rattle.adr_db.proofs.Maps.{sub_map}
use Rattle.adr_db.proofs.KeptMaps.{HasTexts}

abbrev columns : List (List ℕ)
columns = codes "id" ∷ codes "ven" ∷ codes "body" ∷ codes "created" ∷ codes "modified" ∷ []

fit : (e : ℕ × Sub) → AreValues sub (sub_row e)
fit e =
    let stamps = e.1.stamps in
    elim e.1.owner as (λ owner. AreValues sub (number e.0 ∷ owner_cell owner ∷ Text (kept_text e.1.body) ∷ number stamps.created ∷ number stamps.modified ∷ [])) [
      | None ↦ record { fits = refl; full = refl; width = refl }
      | Some ven ↦ record { fits = refl; full = refl; width = refl }
    ]

pub texts : HasTexts sub_map PUT.now REMOVE.now READ_ONE.now
unfolding understood everything
texts = record {
  puts = λ e. record { terms = lit Null ∷ col 0 0 ∷ col 0 1 ∷ col 0 2 ∷ col 0 3 ∷ col 0 4 ∷ []; met = 5; sets = col 0 7 ∷ col 0 8 ∷ col 0 9 ∷ col 0 10 ∷ col 0 11 ∷ []; command = refl; alone = (refl, refl); given = refl; meets = λ id next r. refl; writes = λ id next r. refl };
  fit = fit;
  removes = record { command = refl; alone = (refl, refl); flat = refl; joins = refl };
  reads_one = record { names = columns; command = refl; alone = (refl, refl); unlisted = refl; from = refl; order = refl; ungrouped = refl; undistinct = refl; joins = refl; sorts = refl; shows = refl };
}

pub reads_all : IsSelectText schema sub (whole_rows 0 sub) end READ_ALL.now
unfolding understood everything
reads_all = record { names = columns; command = refl; alone = (refl, refl); unlisted = refl; from = refl; order = refl; ungrouped = refl; undistinct = refl; joins = refl; sorts = refl; shows = refl }

pub reads_of : IsSelectText schema sub (first_columns 1 (is_text 1) sub) end READ_OF.now
unfolding understood everything
reads_of = record { names = codes "id" ∷ []; command = refl; alone = (refl, refl); unlisted = refl; from = refl; order = refl; ungrouped = refl; undistinct = refl; joins = refl; sorts = refl; shows = refl }
