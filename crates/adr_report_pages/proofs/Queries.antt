-- What the query of the reports is, what it selects, and how its rows read; and that of the numbers of those on a resource.
use Rattle.std.proofs.Common.{◌≡◌, ℕ, Bool, List, [], ◌∷◌, codes, map, filter, Option, Some, None, Result, refl, sym, ap, ap₂, subst, ◌∙◌}
use Rattle.std.specs.Prelude.{◌==◌}
use Rattle.std.proofs.lemmas.List.{take-map}
use Rattle.sqlite.specs.declared.types.Value.TheVariants.{Int}
use Rattle.sqlite_sql.specs.Query.{Query, page}
use Rattle.adr_db.proofs.Common.{AllZip, Null, Report, Row, cells, col, end, Ghosts, Held, state, State, Shown, understood, everything, IsSelectText, first_columns, filter-map, is_text, passes, select_runs, all_of, filter_all, map-map}
use Rattle.adr_sql.proofs.Joins.{shown_cells}
use Rattle.adr_view.specs.declared.sight.Sight.TheVariants.{All}
use Rattle.adr_queries.specs.Reported.{sees_report}
use Rattle.adr_db.specs.declared.report_columns.ReportColumns.{ReportColumns}
use Rattle.adr_state.specs.Portfolios.{reported_on}
use Rattle.adr_db.specs.Admitted.{ReadsNumber, ReadsReportEntry}
use Rattle.adr_db.specs.Calls.{Finds, Shows}
use Rattle.adr_db.specs.Images.{image_kept}
use Rattle.adr_db.specs.Kept.{Kept, Keeps, at_most, contents_of, limit_number}
use Rattle.adr_db.specs.Rows.{number, number_row, report_columns_row, report_row}
use Rattle.adr_db.specs.Tables.{schema}
use Rattle.adr_db.proofs.Calls.{shown_finds}
use Rattle.adr_db.proofs.Maps.{report_rows}
use Rattle.adr_db.proofs.Rows.{number_kept, report_columns_kept}
use Rattle.adr_db.proofs.Tables.{report}
use Rattle.adr_db_portfolio.proofs.Numbers.{number_passes, numbers_read}
use Rattle.adr_lent.specs.Selections.{Selects}
use Rattle.adr_report_pages.specs.declared.by_key.TheConstants.{READ_ON}
use Rattle.adr_lent.specs.Whole.{rows_of_reports}
use Rattle.adr_report_pages.specs.Columns.{Entry, columns_in_sight, columns_of}

-- ---- the columns in them

-- the row of the columns of a report
abbrev pub columns_row : Entry → Row
columns_row e = number e.0 ∷ report_columns_row e.1

-- it reads as these alone
pub one_read : (x e : Entry) → ReadsReportEntry (columns_row e) x → x ≡ e
one_read x e reads = ap₂ (λ (n : ℕ) (columns : ReportColumns). (n, columns)) (number_kept x.0 e.0 reads.0) (report_columns_kept x.1 e.1 reads.1)

-- the rows of all reports are those of the columns in sight of who sees all
rows_are : (kept : Kept) → rows_of_reports kept ≡ map columns_row (columns_in_sight kept All)
rows_are kept =
    let rs = kept.portfolio.reports in
    sym (ap (λ rs. map columns_row (map columns_of rs)) (filter_all (sees_report (image_kept kept).base All) rs (all_of _ (λ r. refl) rs)) ∙ map-map columns_row columns_of rs)

-- so a query that selects those selects these
pub every_selected : {S : Type 0} (g : Ghosts S) (sql : List ℕ) (params : Row) (before : Held S) → Selects g sql params rows_of_reports before → Selects g sql params (λ kept. map columns_row (columns_in_sight kept All)) before
every_selected g sql params before h = subst (λ (selection : Kept → List Row). Selects g sql params selection before) (λ i kept. rows_are kept i) h

-- ---- the numbers of those on a resource

abbrev first_on : Query
first_on = record (first_columns 1 (is_text 2) report) { limit = col 0 1 }

abbrev first_row : ℕ → Option ℕ → Row
first_row n most = number n ∷ Int (limit_number most) ∷ []

reads_on : IsSelectText schema report first_on end READ_ON.now
unfolding understood everything
reads_on = record { names = codes "id" ∷ []; command = refl; alone = (refl, refl); unlisted = refl; from = refl; order = refl; ungrouped = refl; undistinct = refl; joins = refl; sorts = refl; shows = refl }

most_is : (n : ℕ) (most : Option ℕ) (xs : List Row) → page first_on (first_row n most) xs ≡ at_most most xs
most_is n None xs = refl
most_is n (Some m) xs = refl

most-map : {X Y : Type 0} (f : X → Y) (most : Option ℕ) (xs : List X) → at_most most (map f xs) ≡ map f (at_most most xs)
most-map f None xs = refl
most-map f (Some m) xs = take-map f m xs

numbers_shown : (n : ℕ) (most : Option ℕ) (old new : State) (rows : List Row) (kept : Kept) → Shown READ_ON.now (first_row n most) old new rows → Keeps kept old
    → rows ≡ map (λ e. number_row e.0) (at_most most (filter (λ e. reported_on e == n) kept.portfolio.reports))
numbers_shown n most old new rows kept all was =
    let es = kept.portfolio.reports in
    let is_on : Row → Bool = λ row. passes (first_row n most) (is_text 2) (Null ∷ row) in
    select_runs schema report_rows.at report report_rows.keyed.place first_on end READ_ON.now (first_row n most) reads_on refl old new rows (contents_of kept) all was.rows
    ∙ most_is n most _
    ∙ ap (at_most most) (ap (λ (show : Row → Row). map show (filter is_on (map report_row es))) (λ i e. shown_cells 1 0 (first_row n most ∷ (Null ∷ e) ∷ []) e refl i)
    ∙ ap (map (cells 0 1)) (filter-map is_on report_row es) ∙ map-map (cells 0 1) report_row (filter (λ e. is_on (report_row e)) es)
    ∙ ap (λ (p : ℕ × Report → Bool). map (λ e. number_row e.0) (filter p es)) (λ i e. number_passes 2 n (reported_on e) (report_row e) refl i))
    ∙ most-map (λ e. number_row e.0) most (filter (λ e. reported_on e == n) es)

pub numbers_find : {S E : Type 0} (g : Ghosts S) (old new : Held S) (n : ℕ) (most : Option ℕ) (r : Result (List ℕ) E) → Shows g old new READ_ON.now (first_row n most) (AllZip ReadsNumber) r
    → Finds g old new (λ kept numbers. numbers ≡ map (λ r. r.0) (at_most most (filter (λ r. reported_on r == n) kept.portfolio.reports))) r
numbers_find g old new n most r =
    shown_finds g old new READ_ON.now (first_row n most) (AllZip ReadsNumber) (λ kept numbers. numbers ≡ map (λ r. r.0) (at_most most (filter (λ r. reported_on r == n) kept.portfolio.reports))) r reads_on.alone (λ read rows kept shown was reads.
    numbers_read (at_most most (filter (λ e. reported_on e == n) kept.portfolio.reports)) read (subst (λ rows. AllZip ReadsNumber rows read) (numbers_shown n most (state g old) (state g new) rows kept shown was) reads))
