-- The statements on the tables `report` and `report_value`.
use Rattle.std.proofs.Common.{◌≡◌, ℕ, suc, Bool, None, Some, Option, Ok, Err, Result, List, [], ◌∷◌, codes, map, filter, take, refl, sym, ap, ap₂, subst, ◌∙◌}
use Rattle.std.specs.Prelude.{◌==◌, bytes_eq, option_to_list}
use Rattle.adr_db.proofs.Common.{AllZip, option_map, option_map_or, nat_cmp, Null, Int, Text, Row, filter-map, map-map, lit, col, end, Ghosts, Held, state, State, Executes, understood, everything, at, cells, with_row, rows_of_table, with_table, Contents, Holds, Runs, AreValues, IsUpsertText, upsert_runs, IsRemoveText, IsSelectText, first_columns, first_runs, passes, whole_rows, read_runs, equalities, is_text, text_passes}
use Rattle.adr_objects.specs.declared.report.UsageInterval.{UsageInterval}
use Rattle.adr_state.specs.declared.portfolio.Report.{Report}
use Rattle.adr_state.specs.Portfolios.{reported_on}
use Rattle.adr_sql.specs.Keys.{rows_without}
use Rattle.adr_sql.specs.Codecs.{entry_at}
use Rattle.adr_sql.proofs.KeyedMaps.{read_entry_runs}
use Rattle.adr_sql.proofs.Removals.{remove_at_runs}
use Rattle.adr_db.specs.declared.report_columns.ReportColumns.{ReportColumns}
use Rattle.adr_db_portfolio.specs.declared.report.TheConstants.{PUT, REMOVE, READ_ONE, READ_OF, READ_ON}
use Rattle.adr_db_portfolio.specs.declared.report_value.TheConstants as values
use Rattle.adr_db.specs.Tables.{schema}
use Rattle.adr_db.specs.Rows.{number, number_row, name_cell, usage_cell, report_row, report_columns_row, value_row, value_rows_from, value_rows}
use Rattle.adr_db.specs.Kept.{contents_of, contents_with, intervals_of}
use Rattle.adr_db.specs.Calls.{ChangesValues, Finds, Shows}
use Rattle.adr_db.specs.Admitted.{ReadsNumber, ReadsReportColumns, ReadsReportEntry, ReadsUsageInterval}
use Rattle.adr_db.proofs.Tables.{report, report_keyed, report_value, report_value_keyed, report_value_childless}
use Rattle.adr_db.proofs.Rows.{number_kept, report_columns_kept, interval_kept}
use Rattle.adr_db.proofs.Calls.{shown_finds}
use Rattle.adr_db.proofs.KeptMaps.{read_back}
use Rattle.adr_db.proofs.Maps.{report_rows}
use Rattle.adr_db.proofs.Rises.{reports_rise}
use Rattle.adr_db.proofs.Reports.{values_at, columns_of}
use Rattle.adr_db_portfolio.proofs.Numbers.{number_passes, numbers_read}

-- ---- the texts

abbrev columns : List (List ℕ)
columns = codes "id" ∷ codes "event" ∷ codes "resource" ∷ codes "program" ∷ codes "client" ∷ codes "name" ∷ codes "resource_name" ∷ codes "revision" ∷ []

pub puts : (e : ℕ × Report) → IsUpsertText schema 7 report PUT.now (report_row e) (report_row e)
unfolding understood everything
puts e = record {
  terms = lit Null ∷ col 0 0 ∷ col 0 1 ∷ col 0 2 ∷ col 0 3 ∷ col 0 4 ∷ col 0 5 ∷ col 0 6 ∷ col 0 7 ∷ [];
  met = 8;
  sets = col 0 10 ∷ col 0 11 ∷ col 0 12 ∷ col 0 13 ∷ col 0 14 ∷ col 0 15 ∷ col 0 16 ∷ col 0 17 ∷ [];
  command = refl;
  alone = (refl, refl);
  given = refl;
  meets = λ id next r. refl;
  writes = λ id next r. refl;
}

fit : (e : ℕ × Report) → AreValues report (report_row e)
fit e =
    let head = e.1.body.head in
    elim head.name as (λ name. AreValues report (number e.0 ∷ Text head.event ∷ number head.resource ∷ Text head.program ∷ Text head.client ∷ name_cell name ∷ Text head.resource_name ∷ number e.1.revision ∷ [])) [
      | None ↦ record { fits = refl; full = refl; width = refl }
      | Some text ↦ record { fits = refl; full = refl; width = refl }
    ]

pub removes : IsRemoveText schema 7 report end (equalities 0 1) REMOVE.now
unfolding understood everything
removes = record { command = refl; alone = (refl, refl); flat = refl; joins = refl }

pub reads_one : IsSelectText schema report (whole_rows 1 report) end READ_ONE.now
unfolding understood everything
reads_one = record { names = columns; command = refl; alone = (refl, refl); unlisted = refl; from = refl; order = refl; ungrouped = refl; undistinct = refl; joins = refl; sorts = refl; shows = refl }

pub reads_of : IsSelectText schema report (first_columns 8 (is_text 1) report) end READ_OF.now
unfolding understood everything
reads_of = record { names = columns; command = refl; alone = (refl, refl); unlisted = refl; from = refl; order = refl; ungrouped = refl; undistinct = refl; joins = refl; sorts = refl; shows = refl }

reads_on : IsSelectText schema report (first_columns 1 (is_text 2) report) end READ_ON.now
unfolding understood everything
reads_on = record { names = codes "id" ∷ []; command = refl; alone = (refl, refl); unlisted = refl; from = refl; order = refl; ungrouped = refl; undistinct = refl; joins = refl; sorts = refl; shows = refl }

puts_value : (n place : ℕ) (interval : UsageInterval) → IsUpsertText schema 8 report_value values.PUT.now (value_row n place interval) (value_row n place interval)
unfolding understood everything
puts_value n place interval = record { terms = lit Null ∷ col 0 0 ∷ col 0 1 ∷ col 0 2 ∷ col 0 3 ∷ []; met = 4; sets = col 0 6 ∷ col 0 7 ∷ col 0 8 ∷ col 0 9 ∷ []; command = refl; alone = (refl, refl); given = refl; meets = λ id next r. refl; writes = λ id next r. refl }

fit_value : (n place : ℕ) (interval : UsageInterval) → AreValues report_value (value_row n place interval)
fit_value n place interval = elim interval.usage as (λ usage. AreValues report_value (number n ∷ number place ∷ Int interval.id ∷ usage_cell usage ∷ [])) [
  | None ↦ record { fits = refl; full = refl; width = refl }
  | Some amount ↦ record { fits = refl; full = refl; width = refl }
]

clears : IsRemoveText schema 8 report_value end (equalities 0 1) values.CLEAR.now
unfolding understood everything
clears = record { command = refl; alone = (refl, refl); flat = refl; joins = refl }

pub reads_values : IsSelectText schema report_value (whole_rows 1 report_value) end values.READ.now
unfolding understood everything
reads_values = record { names = codes "report" ∷ codes "pos" ∷ codes "interval" ∷ codes "value" ∷ []; command = refl; alone = (refl, refl); unlisted = refl; from = refl; order = refl; ungrouped = refl; undistinct = refl; joins = refl; sorts = refl; shows = refl }

-- ---- what they write

pub row_put : (e : ℕ × Report) (old new : State) (done : ℕ) (all : Contents) → Executes PUT.now (report_row e) old new (Ok done) → Holds schema all old → Holds schema (with_table all 7 (with_row 1 (report_row e) (rows_of_table all 7))) new
row_put e = upsert_runs schema 7 report report_keyed PUT.now (report_row e) (report_row e) (puts e) (fit e)

module _ {S E : Type 0} (g : Ghosts S) (old new : Held S) where
  values_changed : (sql : List ℕ) (params : Row) (change : List Row → List Row) (r : Result Unit E)
      → ((done : ℕ) (all : Contents) → Executes sql params (state g old) (state g new) (Ok done) → Holds schema all (state g old) → Holds schema (with_table all 8 (change (rows_of_table all 8))) (state g new))
      → Runs g old new sql params r → ChangesValues g old new change r
  values_changed sql params change (Ok done) means ran clean = let it = ran clean in λ kept reports values was. means it.0 (contents_with reports values kept) it.1 was
  values_changed sql params change (Err e) means ran clean = tt

  pub value_put : (n place : ℕ) (interval : UsageInterval) (r : Result Unit E) → Runs g old new values.PUT.now (value_row n place interval) r → ChangesValues g old new (with_row 2 (value_row n place interval)) r
  value_put n place interval r =
      let row = value_row n place interval in
      values_changed values.PUT.now row (with_row 2 row) r (λ done all h was. upsert_runs schema 8 report_value report_value_keyed values.PUT.now row row (puts_value n place interval) (fit_value n place interval) (state g old) (state g new) done all h was)

  pub values_cleared : (n : ℕ) (r : Result Unit E) → Runs g old new values.CLEAR.now (number_row n) r → ChangesValues g old new (rows_without 1 (number_row n)) r
  values_cleared n r =
      values_changed values.CLEAR.now (number_row n) (rows_without 1 (number_row n)) r (λ done all h was.
      remove_at_runs schema 8 1 report_value report_value_keyed.place report_value_childless values.CLEAR.now (number_row n) clears refl (state g old) (state g new) done all h was)

-- ---- what they read

-- the intervals of a report are read back
values_read : (n place : ℕ) (intervals read : List UsageInterval) → AllZip ReadsUsageInterval (value_rows_from n place intervals) read → read ≡ intervals
values_read n place [] [] h = refl
values_read n place [] (x ∷ read) h = absurd h
values_read n place (interval ∷ intervals) [] h = absurd h
values_read n place (interval ∷ intervals) (x ∷ read) h = ap₂ ◌∷◌ (interval_kept x interval h.0) (values_read n (suc place) intervals read h.1)

found_read : (n : ℕ) (found : Option Report) (read : List UsageInterval) → AllZip ReadsUsageInterval (option_map_or (λ report. value_rows (n, report)) found []) read → read ≡ option_map_or (λ report. report.body.intervals) found []
found_read n None [] h = refl
found_read n None (x ∷ read) h = absurd h
found_read n (Some report) read h = values_read n 0 report.body.intervals read h

-- the rows of reports are read back, as what they stand for
columns_read : (es : List (ℕ × Report)) (read : List (ℕ × ReportColumns)) → AllZip ReadsReportEntry (map report_row es) read → read ≡ map columns_of es
columns_read es read h =
    let row_of : ℕ × ReportColumns → Row = λ e. number e.0 ∷ report_columns_row e.1 in
    read_back ReadsReportEntry row_of read (map columns_of es) (λ x y has same. ap₂ (λ (n : ℕ) (columns : ReportColumns). (n, columns)) (number_kept x.0 y.0 same.0) (report_columns_kept x.1 y.1 same.1))
    (subst (λ rows. AllZip ReadsReportEntry rows read) (sym (map-map row_of columns_of es)) h)

module _ {S E : Type 0} (g : Ghosts S) (old new : Held S) where
  pub values_find : (n : ℕ) (r : Result (List UsageInterval) E) → Shows g old new values.READ.now (number_row n) (AllZip ReadsUsageInterval) r → Finds g old new (λ kept intervals. intervals ≡ intervals_of n kept) r
  values_find n r =
      shown_finds g old new values.READ.now (number_row n) (AllZip ReadsUsageInterval) (λ kept intervals. intervals ≡ intervals_of n kept) r reads_values.alone (λ intervals rows kept shown was read.
      let are = read_runs schema 8 1 report_value report_value_keyed.place values.READ.now (number_row n) reads_values refl (state g old) (state g new) rows (contents_of kept) shown was.rows
      ∙ values_at n kept.portfolio.reports (reports_rise kept (state g old) was) in
      found_read n (at nat_cmp n kept.portfolio.reports) intervals (subst (λ rows. AllZip ReadsUsageInterval rows intervals) are read))

  pub rows_of_find : (event : List ℕ) (r : Result (List (ℕ × ReportColumns)) E) → Shows g old new READ_OF.now (Text event ∷ []) (AllZip ReadsReportEntry) r
      → Finds g old new (λ kept rows. rows ≡ map columns_of (filter (λ e. bytes_eq e.1.body.head.event event) kept.portfolio.reports)) r
  rows_of_find event r =
      shown_finds g old new READ_OF.now (Text event ∷ []) (AllZip ReadsReportEntry) (λ kept rows. rows ≡ map columns_of (filter (λ e. bytes_eq e.1.body.head.event event) kept.portfolio.reports)) r reads_of.alone (λ read rows kept shown was reads.
      let es = kept.portfolio.reports in
      let is_of = λ (row : Row). passes (Text event ∷ []) (is_text 1) (Null ∷ row) in
      let are = first_runs schema 7 8 (is_text 1) report report_keyed.place READ_OF.now (Text event ∷ []) reads_of (state g old) (state g new) rows (contents_of kept) shown was.rows
      ∙ ap (map (cells 0 8)) (filter-map is_of report_row es) ∙ map-map (cells 0 8) report_row (filter (λ e. is_of (report_row e)) es)
      ∙ ap (λ (p : ℕ × Report → Bool). map report_row (filter p es)) (λ i e. text_passes 1 event e.1.body.head.event (report_row e) refl i) in
      columns_read (filter (λ e. bytes_eq e.1.body.head.event event) es) read (subst (λ rows. AllZip ReadsReportEntry rows read) are reads))

  pub row_finds : (n : ℕ) (r : Result (Option ReportColumns) E) → Shows g old new READ_ONE.now (number_row n) (λ rows found. AllZip ReadsReportColumns (take 1 rows) (option_to_list found)) r
      → Finds g old new (λ kept found. found ≡ option_map (λ report. (columns_of (n, report)).1) (at nat_cmp n kept.portfolio.reports)) r
  row_finds n r =
      shown_finds g old new READ_ONE.now (number_row n) (λ rows found. AllZip ReadsReportColumns (take 1 rows) (option_to_list found)) (λ kept found. found ≡ option_map (λ report. (columns_of (n, report)).1) (at nat_cmp n kept.portfolio.reports)) r
      reads_one.alone (λ found rows kept shown was reads.
      let are = read_entry_runs report_rows (contents_of kept) kept.portfolio.reports refl READ_ONE.now (state g old) (state g new) n refl reads_one rows shown was.rows in
      by (at nat_cmp n kept.portfolio.reports) found (subst (λ rows. AllZip ReadsReportColumns (take 1 rows) (option_to_list found)) are reads))
    where
      by : (there : Option Report) (found : Option ReportColumns) → AllZip ReadsReportColumns (take 1 (map report_row (entry_at n there))) (option_to_list found) → found ≡ option_map (λ report. (columns_of (n, report)).1) there
      by None None reads = refl
      by None (Some found) reads = absurd reads
      by (Some there) None reads = absurd reads
      by (Some there) (Some found) reads = ap Some (report_columns_kept found (columns_of (n, there)).1 reads.0)

  pub numbers_on_find : (n : ℕ) (r : Result (List ℕ) E) → Shows g old new READ_ON.now (number_row n) (AllZip ReadsNumber) r → Finds g old new (λ kept numbers. numbers ≡ map (λ r. r.0) (filter (λ r. reported_on r == n) kept.portfolio.reports)) r
  numbers_on_find n r =
      shown_finds g old new READ_ON.now (number_row n) (AllZip ReadsNumber) (λ kept numbers. numbers ≡ map (λ r. r.0) (filter (λ r. reported_on r == n) kept.portfolio.reports)) r reads_on.alone (λ read rows kept shown was reads.
      let es = kept.portfolio.reports in
      let is_on = λ (row : Row). passes (number_row n) (is_text 2) (Null ∷ row) in
      let are = first_runs schema 7 1 (is_text 2) report report_keyed.place READ_ON.now (number_row n) reads_on (state g old) (state g new) rows (contents_of kept) shown was.rows
      ∙ ap (map (cells 0 1)) (filter-map is_on report_row es) ∙ map-map (cells 0 1) report_row (filter (λ e. is_on (report_row e)) es)
      ∙ ap (λ (p : ℕ × Report → Bool). map (λ e. number_row e.0) (filter p es)) (λ i e. number_passes 2 n (reported_on e) (report_row e) refl i) in
      numbers_read (filter (λ e. reported_on e == n) es) read (subst (λ rows. AllZip ReadsNumber rows read) are reads))
