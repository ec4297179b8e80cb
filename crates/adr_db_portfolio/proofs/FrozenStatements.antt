-- The statements on the tables `frozen` and `frozen_share`.
use Rattle.std.proofs.Common.{ℕ, List, [], ◌∷◌, codes, refl}
use Rattle.adr_db.proofs.Common.{Null, lit, col, end, understood, everything, AreValues, IsUpsertText, IsRemoveText, IsSelectText, whole_rows, first_columns, is_text, equalities}
use Rattle.adr_state.specs.declared.keys.FrozenKey.{FrozenKey}
use Rattle.adr_db_portfolio.specs.declared.frozen.TheConstants as events
use Rattle.adr_db_portfolio.specs.declared.frozen_share.TheConstants.{PUT, CLEAR, READ_IN, READ_OF}
use Rattle.adr_db.specs.Tables.{schema}
use Rattle.adr_db.specs.Rows.{event_key_row, frozen_share_row}
use Rattle.adr_db.proofs.Tables.{frozen, frozen_share}
use Rattle.adr_db.proofs.Maps.{frozen_map, frozen_share_map}

-- ---- the events

pub event_puts : (event : List ℕ) → IsUpsertText schema frozen_map.rows.at frozen events.PUT.now (event_key_row event) (event_key_row event)
unfolding understood everything
event_puts event = record { terms = lit Null ∷ col 0 0 ∷ []; met = 1; sets = col 0 3 ∷ []; command = refl; alone = (refl, refl); given = refl; meets = λ id next r. refl; writes = λ id next r. refl }

pub event_values : (event : List ℕ) → AreValues frozen (event_key_row event)
event_values event = record { fits = refl; full = refl; width = refl }

pub event_read : IsSelectText schema frozen (whole_rows 1 frozen) end events.READ_ONE.now
unfolding understood everything
event_read = record { names = codes "event" ∷ []; command = refl; alone = (refl, refl); unlisted = refl; from = refl; order = refl; ungrouped = refl; undistinct = refl; joins = refl; sorts = refl; shows = refl }

-- ---- the shares

abbrev columns : List (List ℕ)
columns = codes "event" ∷ codes "resource" ∷ codes "weight" ∷ []

pub puts : (e : FrozenKey × ℕ) → IsUpsertText schema frozen_share_map.rows.at frozen_share PUT.now (frozen_share_row e) (frozen_share_row e)
unfolding understood everything
puts e = record { terms = lit Null ∷ col 0 0 ∷ col 0 1 ∷ col 0 2 ∷ []; met = 3; sets = col 0 5 ∷ col 0 6 ∷ col 0 7 ∷ []; command = refl; alone = (refl, refl); given = refl; meets = λ id next r. refl; writes = λ id next r. refl }

pub values : (e : FrozenKey × ℕ) → AreValues frozen_share (frozen_share_row e)
values e = record { fits = refl; full = refl; width = refl }

pub clears : IsRemoveText schema frozen_share_map.rows.at frozen_share end (equalities 0 1) CLEAR.now
unfolding understood everything
clears = record { command = refl; alone = (refl, refl); flat = refl; joins = refl }

pub reads_in : IsSelectText schema frozen_share (whole_rows 1 frozen_share) end READ_IN.now
unfolding understood everything
reads_in = record { names = columns; command = refl; alone = (refl, refl); unlisted = refl; from = refl; order = refl; ungrouped = refl; undistinct = refl; joins = refl; sorts = refl; shows = refl }

pub reads_of : IsSelectText schema frozen_share (first_columns 2 (is_text 1) frozen_share) end READ_OF.now
unfolding understood everything
reads_of = record { names = codes "event" ∷ codes "resource" ∷ []; command = refl; alone = (refl, refl); unlisted = refl; from = refl; order = refl; ungrouped = refl; undistinct = refl; joins = refl; sorts = refl; shows = refl }
