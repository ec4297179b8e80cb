-- What queries of whole tables are, and what they select.
use Rattle.std.proofs.Common.{◌≡◌, ℕ, List, [], ◌∷◌, codes, map, refl}
use Rattle.adr_db.proofs.Common.{Row, end, Ghosts, Held, State, Shown, understood, everything, IsSelectText, whole_rows}
use Rattle.adr_sql.proofs.KeyedMaps.{read_all_runs}
use Rattle.adr_db.specs.Kept.{Kept, Keeps, contents_of}
use Rattle.adr_db.specs.Tables.{schema}
use Rattle.adr_db.proofs.KeptMaps.{KeptMap, StoredMap}
use Rattle.adr_db.proofs.Maps.{ven_map, report_rows, sub_map}
use Rattle.adr_db.proofs.Tables.{ven, report, sub}
use Rattle.adr_lent.specs.Selections.{Selects}
use Rattle.adr_lent.specs.Texts.{IsQueryText}
use Rattle.adr_lent.specs.Whole.{rows_of_vens, rows_of_subs, rows_of_reports}
use Rattle.adr_lent.specs.declared.whole.TheConstants.{READ_VENS, READ_SUBS, READ_REPORTS}
use Rattle.adr_lent.proofs.Queries.{selects}

-- a query of all rows of a table that is a map selects those of its entries
module _ {K V : Type 0} (m : StoredMap K V) (sql : List ℕ) (text : IsSelectText schema m.rows.table (whole_rows 0 m.rows.table) end sql) where
  all_shown : (old new : State) (rows : List Row) (kept : Kept) → Shown sql [] old new rows → Keeps kept old → rows ≡ map m.rows.row_of (m.entries kept)
  all_shown old new rows kept all was = read_all_runs m.rows (contents_of kept) (m.entries kept) (m.stored kept) sql [] old new text rows all was.rows

  pub all_selected : {S : Type 0} (g : Ghosts S) (before : Held S) → Selects g sql [] (λ kept. map m.rows.row_of (m.entries kept)) before
  all_selected g before = selects g sql [] (whole_rows 0 m.rows.table) (λ kept. map m.rows.row_of (m.entries kept)) text all_shown before

-- so of a table on which no other follows
abbrev pub stored : {K V : Type 0} → KeptMap K V → StoredMap K V
stored m = record { rows = m.rows; entries = m.entries; stored = m.stored }

-- ---- vens

pub vens_query : IsQueryText READ_VENS.now
unfolding everything
vens_query = record { read = record { unreturned = λ schema base. refl; untimed = λ schema. refl } }

vens_text : IsSelectText schema ven (whole_rows 0 ven) end READ_VENS.now
unfolding understood everything
vens_text = record { names = codes "id" ∷ codes "name" ∷ codes "created" ∷ codes "modified" ∷ []; command = refl; alone = (refl, refl); unlisted = refl; from = refl; order = refl; ungrouped = refl; undistinct = refl; joins = refl; sorts = refl; shows = refl }

pub vens_selected : {S : Type 0} (g : Ghosts S) (before : Held S) → Selects g READ_VENS.now [] rows_of_vens before
vens_selected = all_selected (stored ven_map) READ_VENS.now vens_text

-- ---- subs

pub subs_query : IsQueryText READ_SUBS.now
unfolding everything
subs_query = record { read = record { unreturned = λ schema base. refl; untimed = λ schema. refl } }

subs_text : IsSelectText schema sub (whole_rows 0 sub) end READ_SUBS.now
unfolding understood everything
subs_text = record { names = codes "id" ∷ codes "ven" ∷ codes "body" ∷ codes "created" ∷ codes "modified" ∷ []; command = refl; alone = (refl, refl); unlisted = refl; from = refl; order = refl; ungrouped = refl; undistinct = refl; joins = refl; sorts = refl; shows = refl }

pub subs_selected : {S : Type 0} (g : Ghosts S) (before : Held S) → Selects g READ_SUBS.now [] rows_of_subs before
subs_selected = all_selected (stored sub_map) READ_SUBS.now subs_text

-- ---- reports, whose intervals stand in another table

pub reports_query : IsQueryText READ_REPORTS.now
unfolding everything
reports_query = record { read = record { unreturned = λ schema base. refl; untimed = λ schema. refl } }

reports_text : IsSelectText schema report (whole_rows 0 report) end READ_REPORTS.now
unfolding understood everything
reports_text = record { names = codes "id" ∷ codes "event" ∷ codes "resource" ∷ codes "program" ∷ codes "client" ∷ codes "name" ∷ codes "resource_name" ∷ codes "revision" ∷ []; command = refl; alone = (refl, refl); unlisted = refl; from = refl; order = refl; ungrouped = refl; undistinct = refl; joins = refl; sorts = refl; shows = refl }

pub reports_selected : {S : Type 0} (g : Ghosts S) (before : Held S) → Selects g READ_REPORTS.now [] rows_of_reports before
reports_selected = all_selected (record { rows = report_rows; entries = λ kept. kept.portfolio.reports; stored = λ kept. refl }) READ_REPORTS.now reports_text
