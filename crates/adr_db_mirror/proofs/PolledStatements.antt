-- The statements on the table `polled`.
use Rattle.std.proofs.Common.{[], ◌∷◌, refl}
use Rattle.adr_db.proofs.Common.{Null, lit, col, end, understood, everything, MirrorKey, AreValues, IsUpsertText, IsRemoveText}
use Rattle.adr_db_mirror.specs.declared.polled.TheConstants.{PUT, CLEAR}
use Rattle.adr_db.specs.Tables.{schema}
use Rattle.adr_db.specs.Rows.{key_row}
use Rattle.adr_db.proofs.Tables.{polled}
use Rattle.adr_db.proofs.Maps.{polled_map}

pub puts : (key : MirrorKey) → IsUpsertText schema polled_map.rows.at polled PUT.now (key_row key) (key_row key)
unfolding understood everything
puts key = record { terms = lit Null ∷ col 0 0 ∷ col 0 1 ∷ []; met = 2; sets = col 0 4 ∷ col 0 5 ∷ []; command = refl; alone = (refl, refl); given = refl; meets = λ id next r. refl; writes = λ id next r. refl }

pub values : (key : MirrorKey) → AreValues polled (key_row key)
values key = record { fits = refl; full = refl; width = refl }

pub clears : IsRemoveText schema polled_map.rows.at polled end [] CLEAR.now
unfolding understood everything
clears = record { command = refl; alone = (refl, refl); flat = refl; joins = refl }
