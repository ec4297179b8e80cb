-- The statements on the table `resource`.
use Rattle.std.proofs.Common.{ℕ, List, [], ◌∷◌, codes, refl}
use Rattle.adr_db.proofs.Common.{Null, lit, col, end, understood, everything, IsSelectText, first_columns, is_text}
use Rattle.adr_db_portfolio.specs.declared.resource.TheConstants.{PUT, REMOVE, READ_ONE, READ_NAMED, READ_OF}
use Rattle.adr_db.specs.Tables.{schema}
use Rattle.adr_db.proofs.Tables.{resource}
use Rattle.adr_db.proofs.Maps.{resource_map}
use Rattle.adr_db.proofs.KeptMaps.{HasTexts}

abbrev columns : List (List ℕ)
columns = codes "id" ∷ codes "ven" ∷ codes "name" ∷ codes "created" ∷ codes "modified" ∷ []

pub texts : HasTexts resource_map PUT.now REMOVE.now READ_ONE.now
unfolding understood everything
texts = record {
  puts = λ e. record { terms = lit Null ∷ col 0 0 ∷ col 0 1 ∷ col 0 2 ∷ col 0 3 ∷ col 0 4 ∷ []; met = 5; sets = col 0 7 ∷ col 0 8 ∷ col 0 9 ∷ col 0 10 ∷ col 0 11 ∷ []; command = refl; alone = (refl, refl); given = refl; meets = λ id next r. refl; writes = λ id next r. refl };
  fit = λ e. record { fits = refl; full = refl; width = refl };
  removes = record { command = refl; alone = (refl, refl); flat = refl; joins = refl };
  reads_one = record { names = columns; command = refl; alone = (refl, refl); unlisted = refl; from = refl; order = refl; ungrouped = refl; undistinct = refl; joins = refl; sorts = refl; shows = refl };
}

pub reads_named : IsSelectText schema resource (first_columns 1 (is_text 2) resource) end READ_NAMED.now
unfolding understood everything
reads_named = record { names = codes "id" ∷ []; command = refl; alone = (refl, refl); unlisted = refl; from = refl; order = refl; ungrouped = refl; undistinct = refl; joins = refl; sorts = refl; shows = refl }

pub reads_of : IsSelectText schema resource (first_columns 1 (is_text 1) resource) end READ_OF.now
unfolding understood everything
reads_of = record { names = codes "id" ∷ []; command = refl; alone = (refl, refl); unlisted = refl; from = refl; order = refl; ungrouped = refl; undistinct = refl; joins = refl; sorts = refl; shows = refl }
