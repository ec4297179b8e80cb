-- What the queries of the tables are, and what they select.
use Rattle.std.proofs.Common.{◌≡◌, List, [], ◌∷◌, codes, map, refl, ◌∙◌}
use Rattle.adr_db.proofs.Common.{Row, end, Ghosts, Held, State, Shown, understood, everything, IsSelectText, first_columns, whole_rows, read_runs, filter_all, all_of, map-map, MirrorKey}
use Rattle.adr_sql.specs.Keys.{has_key}
use Rattle.adr_db.specs.Kept.{Kept, Keeps, contents_of}
use Rattle.adr_db.specs.Rows.{key_row}
use Rattle.adr_db.specs.Tables.{schema}
use Rattle.adr_db.proofs.Maps.{mirror_map, polled_map, resource_map, share_map, frozen_map, frozen_share_map, stamp_map, remote_map, outbox_map}
use Rattle.adr_db.proofs.MetaStatements.{reads as meta_reads, meta_read}
use Rattle.adr_db.proofs.Tables.{meta, mirror, polled, ven, resource, share, frozen, frozen_share, stamp, report, report_value, report_value_keyed, remote, outbox}
use Rattle.adr_lent.specs.Selections.{Selects}
use Rattle.adr_lent.specs.Texts.{IsQueryText}
use Rattle.adr_lent.proofs.Queries.{selects}
use Rattle.adr_lent.proofs.WholeTables.{all_selected, stored}
use Rattle.adr_sql.proofs.KeyedMaps.{read_all_runs}
use Rattle.adr_lent_image.specs.declared.numbers.TheConstants.{READ_META}
use Rattle.adr_lent_image.specs.declared.marks.TheConstants.{READ_MARKS, READ_POLLED}
use Rattle.adr_lent_image.specs.declared.sites.TheConstants.{READ_RESOURCES, READ_SHARES}
use Rattle.adr_lent_image.specs.declared.frozen.TheConstants.{READ_FROZEN, READ_FROZEN_SHARES}
use Rattle.adr_lent_image.specs.declared.stamps.TheConstants.{READ_STAMPS}
use Rattle.adr_lent_image.specs.declared.intervals.TheConstants.{READ_INTERVALS}
use Rattle.adr_lent_image.specs.declared.waits.TheConstants.{READ_ENTRIES, READ_REMOTES}
use Rattle.adr_lent_image.specs.Selected.{rows_of_meta, rows_of_marks, rows_of_polled, rows_of_resources, rows_of_shares, rows_of_frozen, rows_of_frozen_shares, rows_of_stamps, rows_of_intervals, rows_of_remotes, rows_of_entries}

-- ---- marks

pub marks_query : IsQueryText READ_MARKS.now
unfolding everything
marks_query = record { read = record { unreturned = λ schema base. refl; untimed = λ schema. refl } }

marks_text : IsSelectText schema mirror (whole_rows 0 mirror) end READ_MARKS.now
unfolding understood everything
marks_text = record { names = codes "kind" ∷ codes "id" ∷ codes "state" ∷ codes "moment" ∷ codes "body" ∷ codes "program" ∷ []; command = refl; alone = (refl, refl); unlisted = refl; from = refl; order = refl; ungrouped = refl; undistinct = refl; joins = refl; sorts = refl; shows = refl }

pub marks_selected : {S : Type 0} (g : Ghosts S) (before : Held S) → Selects g READ_MARKS.now [] rows_of_marks before
marks_selected = all_selected (stored mirror_map) READ_MARKS.now marks_text

-- ---- resources

pub resources_query : IsQueryText READ_RESOURCES.now
unfolding everything
resources_query = record { read = record { unreturned = λ schema base. refl; untimed = λ schema. refl } }

resources_text : IsSelectText schema resource (whole_rows 0 resource) end READ_RESOURCES.now
unfolding understood everything
resources_text = record { names = codes "id" ∷ codes "ven" ∷ codes "name" ∷ codes "created" ∷ codes "modified" ∷ []; command = refl; alone = (refl, refl); unlisted = refl; from = refl; order = refl; ungrouped = refl; undistinct = refl; joins = refl; sorts = refl; shows = refl }

pub resources_selected : {S : Type 0} (g : Ghosts S) (before : Held S) → Selects g READ_RESOURCES.now [] rows_of_resources before
resources_selected = all_selected (stored resource_map) READ_RESOURCES.now resources_text

-- ---- shares

pub shares_query : IsQueryText READ_SHARES.now
unfolding everything
shares_query = record { read = record { unreturned = λ schema base. refl; untimed = λ schema. refl } }

shares_text : IsSelectText schema share (whole_rows 0 share) end READ_SHARES.now
unfolding understood everything
shares_text = record { names = codes "program" ∷ codes "resource" ∷ codes "weight" ∷ []; command = refl; alone = (refl, refl); unlisted = refl; from = refl; order = refl; ungrouped = refl; undistinct = refl; joins = refl; sorts = refl; shows = refl }

pub shares_selected : {S : Type 0} (g : Ghosts S) (before : Held S) → Selects g READ_SHARES.now [] rows_of_shares before
shares_selected = all_selected (stored share_map) READ_SHARES.now shares_text

-- ---- the events that are frozen

pub frozen_query : IsQueryText READ_FROZEN.now
unfolding everything
frozen_query = record { read = record { unreturned = λ schema base. refl; untimed = λ schema. refl } }

frozen_text : IsSelectText schema frozen (whole_rows 0 frozen) end READ_FROZEN.now
unfolding understood everything
frozen_text = record { names = codes "event" ∷ []; command = refl; alone = (refl, refl); unlisted = refl; from = refl; order = refl; ungrouped = refl; undistinct = refl; joins = refl; sorts = refl; shows = refl }

pub frozen_selected : {S : Type 0} (g : Ghosts S) (before : Held S) → Selects g READ_FROZEN.now [] rows_of_frozen before
frozen_selected = all_selected (stored frozen_map) READ_FROZEN.now frozen_text

-- ---- the shares that are kept for them

pub frozen_shares_query : IsQueryText READ_FROZEN_SHARES.now
unfolding everything
frozen_shares_query = record { read = record { unreturned = λ schema base. refl; untimed = λ schema. refl } }

frozen_shares_text : IsSelectText schema frozen_share (whole_rows 0 frozen_share) end READ_FROZEN_SHARES.now
unfolding understood everything
frozen_shares_text = record { names = codes "event" ∷ codes "resource" ∷ codes "weight" ∷ []; command = refl; alone = (refl, refl); unlisted = refl; from = refl; order = refl; ungrouped = refl; undistinct = refl; joins = refl; sorts = refl; shows = refl }

pub frozen_shares_selected : {S : Type 0} (g : Ghosts S) (before : Held S) → Selects g READ_FROZEN_SHARES.now [] rows_of_frozen_shares before
frozen_shares_selected = all_selected (stored frozen_share_map) READ_FROZEN_SHARES.now frozen_shares_text

-- ---- stamps

pub stamps_query : IsQueryText READ_STAMPS.now
unfolding everything
stamps_query = record { read = record { unreturned = λ schema base. refl; untimed = λ schema. refl } }

stamps_text : IsSelectText schema stamp (whole_rows 0 stamp) end READ_STAMPS.now
unfolding understood everything
stamps_text = record { names = codes "kind" ∷ codes "a" ∷ codes "b" ∷ codes "created" ∷ codes "modified" ∷ []; command = refl; alone = (refl, refl); unlisted = refl; from = refl; order = refl; ungrouped = refl; undistinct = refl; joins = refl; sorts = refl; shows = refl }

pub stamps_selected : {S : Type 0} (g : Ghosts S) (before : Held S) → Selects g READ_STAMPS.now [] rows_of_stamps before
stamps_selected = all_selected (stored stamp_map) READ_STAMPS.now stamps_text

-- ---- remotes

pub remotes_query : IsQueryText READ_REMOTES.now
unfolding everything
remotes_query = record { read = record { unreturned = λ schema base. refl; untimed = λ schema. refl } }

remotes_text : IsSelectText schema remote (whole_rows 0 remote) end READ_REMOTES.now
unfolding understood everything
remotes_text = record { names = codes "event" ∷ codes "id" ∷ []; command = refl; alone = (refl, refl); unlisted = refl; from = refl; order = refl; ungrouped = refl; undistinct = refl; joins = refl; sorts = refl; shows = refl }

pub remotes_selected : {S : Type 0} (g : Ghosts S) (before : Held S) → Selects g READ_REMOTES.now [] rows_of_remotes before
remotes_selected = all_selected (stored remote_map) READ_REMOTES.now remotes_text

-- ---- entries

pub entries_query : IsQueryText READ_ENTRIES.now
unfolding everything
entries_query = record { read = record { unreturned = λ schema base. refl; untimed = λ schema. refl } }

entries_text : IsSelectText schema outbox (whole_rows 0 outbox) end READ_ENTRIES.now
unfolding understood everything
entries_text = record { names = codes "id" ∷ codes "dest" ∷ codes "event" ∷ codes "operation" ∷ codes "url" ∷ codes "token" ∷ codes "body" ∷ codes "failed" ∷ codes "leases" ∷ codes "leased" ∷ codes "until" ∷ codes "due" ∷ []; command = refl; alone = (refl, refl); unlisted = refl; from = refl; order = refl; ungrouped = refl; undistinct = refl; joins = refl; sorts = refl; shows = refl }

pub entries_selected : {S : Type 0} (g : Ghosts S) (before : Held S) → Selects g READ_ENTRIES.now [] rows_of_entries before
entries_selected = all_selected outbox_map READ_ENTRIES.now entries_text

-- ---- the keys that were polled, which are a set

pub polled_query : IsQueryText READ_POLLED.now
unfolding everything
polled_query = record { read = record { unreturned = λ schema base. refl; untimed = λ schema. refl } }

polled_text : IsSelectText schema polled (whole_rows 0 polled) end READ_POLLED.now
unfolding understood everything
polled_text = record { names = codes "kind" ∷ codes "id" ∷ []; command = refl; alone = (refl, refl); unlisted = refl; from = refl; order = refl; ungrouped = refl; undistinct = refl; joins = refl; sorts = refl; shows = refl }

polled_shown : (old new : State) (rows : List Row) (kept : Kept) → Shown READ_POLLED.now [] old new rows → Keeps kept old → rows ≡ rows_of_polled kept
polled_shown old new rows kept all was = read_all_runs polled_map.rows (contents_of kept) (polled_map.entries kept) (polled_map.stored kept) READ_POLLED.now [] old new polled_text rows all was.rows ∙ map-map (λ (e : MirrorKey × Unit {0}). key_row e.0) (λ k. (k, tt)) kept.polled

pub polled_selected : {S : Type 0} (g : Ghosts S) (before : Held S) → Selects g READ_POLLED.now [] rows_of_polled before
polled_selected g before = selects g READ_POLLED.now [] (whole_rows 0 polled) rows_of_polled polled_text polled_shown before

-- ---- intervals, of which a report may have many

pub intervals_query : IsQueryText READ_INTERVALS.now
unfolding everything
intervals_query = record { read = record { unreturned = λ schema base. refl; untimed = λ schema. refl } }

intervals_text : IsSelectText schema report_value (whole_rows 0 report_value) end READ_INTERVALS.now
unfolding understood everything
intervals_text = record { names = codes "report" ∷ codes "pos" ∷ codes "interval" ∷ codes "value" ∷ []; command = refl; alone = (refl, refl); unlisted = refl; from = refl; order = refl; ungrouped = refl; undistinct = refl; joins = refl; sorts = refl; shows = refl }

intervals_shown : (old new : State) (rows : List Row) (kept : Kept) → Shown READ_INTERVALS.now [] old new rows → Keeps kept old → rows ≡ rows_of_intervals kept
intervals_shown old new rows kept all was =
    read_runs schema 8 0 report_value report_value_keyed.place READ_INTERVALS.now [] intervals_text refl old new rows (contents_of kept) all was.rows ∙ filter_all (has_key 0 []) (rows_of_intervals kept) (all_of _ (λ row. refl) (rows_of_intervals kept))

pub intervals_selected : {S : Type 0} (g : Ghosts S) (before : Held S) → Selects g READ_INTERVALS.now [] rows_of_intervals before
intervals_selected g before = selects g READ_INTERVALS.now [] (whole_rows 0 report_value) rows_of_intervals intervals_text intervals_shown before

-- ---- the numbers of the node, in one row

pub meta_query : IsQueryText READ_META.now
unfolding everything
meta_query = record { read = record { unreturned = λ schema base. refl; untimed = λ schema. refl } }

pub meta_selected : {S : Type 0} (g : Ghosts S) (before : Held S) → Selects g READ_META.now [] rows_of_meta before
meta_selected g before = selects g READ_META.now [] (first_columns 16 [] meta) rows_of_meta meta_reads meta_read before
