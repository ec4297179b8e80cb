-- The statements on the table `share`.
use Rattle.std.proofs.Common.{ℕ, List, [], ◌∷◌, codes, refl}
use Rattle.adr_db.proofs.Common.{Null, lit, col, end, understood, everything, IsSelectText, first_columns, whole_rows, is_text}
use Rattle.adr_db_portfolio.specs.declared.share.TheConstants.{PUT, REMOVE, READ_ONE, READ_ALL, READ_OF}
use Rattle.adr_db.specs.Tables.{schema}
use Rattle.adr_db.proofs.Tables.{share}
use Rattle.adr_db.proofs.Maps.{share_map}
use Rattle.adr_db.proofs.KeptMaps.{HasTexts}

abbrev columns : List (List ℕ)
columns = codes "program" ∷ codes "resource" ∷ codes "weight" ∷ []

pub texts : HasTexts share_map PUT.now REMOVE.now READ_ONE.now
unfolding understood everything
texts = record {
  puts = λ e. record { terms = lit Null ∷ col 0 0 ∷ col 0 1 ∷ col 0 2 ∷ []; met = 3; sets = col 0 5 ∷ col 0 6 ∷ col 0 7 ∷ []; command = refl; alone = (refl, refl); given = refl; meets = λ id next r. refl; writes = λ id next r. refl };
  fit = λ e. record { fits = refl; full = refl; width = refl };
  removes = record { command = refl; alone = (refl, refl); flat = refl; joins = refl };
  reads_one = record { names = columns; command = refl; alone = (refl, refl); unlisted = refl; from = refl; order = refl; ungrouped = refl; undistinct = refl; joins = refl; sorts = refl; shows = refl };
}

pub reads_all : IsSelectText schema share (whole_rows 0 share) end READ_ALL.now
unfolding understood everything
reads_all = record { names = columns; command = refl; alone = (refl, refl); unlisted = refl; from = refl; order = refl; ungrouped = refl; undistinct = refl; joins = refl; sorts = refl; shows = refl }

pub reads_of : IsSelectText schema share (first_columns 2 (is_text 1) share) end READ_OF.now
unfolding understood everything
reads_of = record { names = codes "program" ∷ codes "resource" ∷ []; command = refl; alone = (refl, refl); unlisted = refl; from = refl; order = refl; ungrouped = refl; undistinct = refl; joins = refl; sorts = refl; shows = refl }
