-- The reports as rows of two tables: the intervals of each stand in the second, behind its number.
use Rattle.std.proofs.Common.{◌≡◌, inl, inr, ℕ, suc, Bool, true, false, cond, None, Some, Option, List, [], ◌∷◌, ◌++◌, map, filter, flat_map, refl, ap, ap₂, ◌∙◌, is_eq}
use Rattle.std.proofs.lemmas.List.Elements.{filter-append}
use Rattle.adr_db.proofs.Common.{nat_cmp, option_map, option_map_or, Row, Has, map-map, at, has_key, named_is}
use Rattle.adr_objects.specs.declared.report.UsageInterval.{UsageInterval}
use Rattle.adr_state.specs.declared.portfolio.Report.{Report}
use Rattle.adr_sql.specs.Keys.{rows_at}
use Rattle.adr_db.specs.declared.report_columns.ReportColumns.{ReportColumns}
use Rattle.adr_db.specs.Rows.{number, number_row, report_row, interval_columns, value_row, value_rows_from, value_rows}
use Rattle.adr_db.specs.Kept.{Kept, intervals_of, whole_report, report_of}
use Rattle.adr_db.specs.ReadBack.{interval_in, report_in}
pub use Rattle.adr_db.proofs.Entries.{NumbersRise, found_of}
use Rattle.adr_db.proofs.Rows.{numbers_as_rows, number_same_is, head_again, interval_again}

-- ---- lists

same_on : {X Y : Type 0} (f g : X → Y) (xs : List X) → ((x : X) → Has xs x → f x ≡ g x) → map f xs ≡ map g xs
same_on f g [] same = refl
same_on f g (x ∷ xs) same = ap₂ ◌∷◌ (same x (inl refl)) (same_on f g xs (λ y has. same y (inr has)))

itself : {X : Type 0} (xs : List X) → map (λ x. x) xs ≡ xs
itself [] = refl
itself (x ∷ xs) = ap (λ l. x ∷ l) (itself xs)

-- to pass over a list in the place of nothing is to leave it out
chosen_rows : {X Y : Type 0} (f : X → List Y) (t : X → Bool) (xs : List X) → flat_map (λ x. cond (t x) (f x) []) xs ≡ flat_map f (filter t xs)
chosen_rows f t [] = refl
chosen_rows f t (x ∷ xs) = elim (t x) as (λ b. cond b (f x) [] ++ flat_map (λ x. cond (t x) (f x) []) xs ≡ flat_map f (cond b (x ∷ filter t xs) (filter t xs))) [
  | true ↦ ap (λ l. f x ++ l) (chosen_rows f t xs)
  | false ↦ chosen_rows f t xs
]

-- ---- the rows of intervals that pass

-- where a test of the rows of a report is one of the report
passed_from : (q : Row → Bool) (b : Bool) (n place : ℕ) (intervals : List UsageInterval) → ((place : ℕ) (interval : UsageInterval) → q (value_row n place interval) ≡ b) → filter q (value_rows_from n place intervals) ≡ cond b (value_rows_from n place intervals) []
passed_from q true n place [] same = refl
passed_from q false n place [] same = refl
passed_from q true n place (interval ∷ intervals) same = rw (same place interval) (ap (λ l. value_row n place interval ∷ l) (passed_from q true n (suc place) intervals same))
passed_from q false n place (interval ∷ intervals) same = rw (same place interval) (passed_from q false n (suc place) intervals same)

passed : (q : Row → Bool) (t : ℕ × Report → Bool) (es : List (ℕ × Report)) → ((e : ℕ × Report) → Has es e → (place : ℕ) (interval : UsageInterval) → q (value_row e.0 place interval) ≡ t e)
    → filter q (flat_map value_rows es) ≡ flat_map (λ e. cond (t e) (value_rows e) []) es
passed q t [] same = refl
passed q t (e ∷ es) same =
    filter-append q (value_rows e) (flat_map value_rows es) ∙ ap₂ ◌++◌ (passed_from q (t e) e.0 0 e.1.body.intervals (same e (inl refl))) (passed q t es (λ x has. same x (inr has)))

pub values_left : (q : Row → Bool) (t : ℕ × Report → Bool) (es : List (ℕ × Report)) → ((e : ℕ × Report) → Has es e → (place : ℕ) (interval : UsageInterval) → q (value_row e.0 place interval) ≡ t e)
    → filter q (flat_map value_rows es) ≡ flat_map value_rows (filter t es)
values_left q t es same = passed q t es same ∙ chosen_rows value_rows t es

-- by a number
pub values_named : (n : ℕ) (e : ℕ × Report) (place : ℕ) (interval : UsageInterval) → has_key 1 (number_row n) (value_row e.0 place interval) ≡ is_eq (nat_cmp n e.0)
values_named n e place interval = ap is_eq (numbers_as_rows n e.0 [] (number place ∷ interval_columns interval))

pub values_at : (n : ℕ) (es : List (ℕ × Report)) → NumbersRise es → rows_at 1 (number_row n) (flat_map value_rows es) ≡ option_map_or (λ report. value_rows (n, report)) (at nat_cmp n es) []
values_at n es up = passed (has_key 1 (number_row n)) (λ e. is_eq (nat_cmp n e.0)) es (λ e has. values_named n e) ∙ named_is nat_cmp (λ j k. number_same_is k j) value_rows n es up

-- ---- read back

intervals_again : (n place : ℕ) (intervals : List UsageInterval) → map interval_in (value_rows_from n place intervals) ≡ intervals
intervals_again n place [] = refl
intervals_again n place (interval ∷ intervals) = ap₂ ◌∷◌ (interval_again interval) (intervals_again n (suc place) intervals)

pub reports_again : (es : List (ℕ × Report)) → NumbersRise es → map (report_in (flat_map value_rows es)) (map report_row es) ≡ es
reports_again es up = map-map (report_in (flat_map value_rows es)) report_row es ∙ same_on _ (λ e. e) es again ∙ itself es
  where
    again : (e : ℕ × Report) → Has es e → report_in (flat_map value_rows es) (report_row e) ≡ e
    again e has =
        let rows : rows_at 1 (report_row e) (flat_map value_rows es) ≡ value_rows e = values_at e.0 es up ∙ ap (λ found. option_map_or (λ (report : Report). value_rows (e.0, report)) found []) (found_of es up e has) in
        let intervals = ap (map interval_in) rows ∙ intervals_again e.0 0 e.1.body.intervals in
        let head = head_again e.1.body.head e.1.revision in
        λ i. (e.0, record { revision = e.1.revision; body = record { head = head i; intervals = intervals i } })

-- ---- with the intervals that are kept

abbrev pub columns_of : ℕ × Report → ℕ × ReportColumns
columns_of e = (e.0, record { head = e.1.body.head; revision = e.1.revision })

pub reports_whole : (kept : Kept) → NumbersRise kept.portfolio.reports → (es : List (ℕ × Report)) → ((e : ℕ × Report) → Has es e → Has kept.portfolio.reports e) → map (report_of kept) (map columns_of es) ≡ es
reports_whole kept up es within = map-map (report_of kept) columns_of es ∙ same_on _ (λ e. e) es whole ∙ itself es
  where
    whole : (e : ℕ × Report) → Has es e → report_of kept (columns_of e) ≡ e
    whole e has =
        let intervals : intervals_of e.0 kept ≡ e.1.body.intervals = ap (λ found. option_map_or (λ (report : Report). report.body.intervals) found []) (found_of kept.portfolio.reports up e (within e has)) in
        λ i. (e.0, record { revision = e.1.revision; body = record { head = e.1.body.head; intervals = intervals i } })

-- the columns of the report of a number, with the intervals that are kept for that, are the report
pub report_found : (n : ℕ) (kept : Kept) (columns : ReportColumns) (intervals : List UsageInterval) → Some columns ≡ option_map (λ report. (columns_of (n, report)).1) (at nat_cmp n kept.portfolio.reports) → intervals ≡ intervals_of n kept
    → Some (whole_report columns intervals) ≡ at nat_cmp n kept.portfolio.reports
report_found n kept columns intervals = by (at nat_cmp n kept.portfolio.reports)
  where
    by : (there : Option Report) → Some columns ≡ option_map (λ report. (columns_of (n, report)).1) there → intervals ≡ option_map_or (λ report. report.body.intervals) there [] → Some (whole_report columns intervals) ≡ there
    by None is same = absurd cc
    by (Some report) is same =
        let head : columns ≡ (columns_of (n, report)).1 = cc in
        ap₂ (λ (columns : ReportColumns) (intervals : List UsageInterval). Some (whole_report columns intervals)) head same

pub none_found : (n : ℕ) (there : Option Report) → None ≡ option_map (λ report. (columns_of (n, report)).1) there → None ≡ there
none_found n None is = refl
none_found n (Some report) is = absurd cc
