-- The statements on the table `remote`.
use Rattle.std.proofs.Common.{◌≡◌, ℕ, List, [], ◌∷◌, codes, refl}
use Rattle.adr_db.proofs.Common.{column, Null, lit, col, understood, everything}
use Rattle.adr_db.specs.declared.outbox.RemoteRow.{RemoteRow}
use Rattle.adr_db.specs.Rows.{remote_row}
use Rattle.adr_db.specs.Admitted.{ReadsRemote}
use Rattle.adr_db.specs.ReadBack.{text_of}
use Rattle.adr_db_outbox.specs.declared.remote.TheConstants.{PUT, REMOVE, READ_ONE}
use Rattle.adr_db.proofs.Maps.{remote_map}
use Rattle.adr_db.proofs.KeptMaps.{HasTexts}

abbrev columns : List (List ℕ)
columns = codes "event" ∷ codes "id" ∷ []

pub texts : HasTexts remote_map PUT.now REMOVE.now READ_ONE.now
unfolding understood everything
texts = record {
  puts = λ e. record { terms = lit Null ∷ col 0 0 ∷ col 0 1 ∷ []; met = 2; sets = col 0 4 ∷ col 0 5 ∷ []; command = refl; alone = (refl, refl); given = refl; meets = λ id next r. refl; writes = λ id next r. refl };
  fit = λ e. record { fits = refl; full = refl; width = refl };
  removes = record { command = refl; alone = (refl, refl); flat = refl; joins = refl };
  reads_one = record { names = columns; command = refl; alone = (refl, refl); unlisted = refl; from = refl; order = refl; ungrouped = refl; undistinct = refl; joins = refl; sorts = refl; shows = refl };
}

-- ---- rows that are read

-- what is read of the row of an entry is that entry
pub remote_read : (row : RemoteRow) (e : List ℕ × List ℕ) → ReadsRemote (remote_row e) row → (row.event, row.id) ≡ e
remote_read row e h = λ i. (text_of (column (h i) 0), text_of (column (h i) 1))
