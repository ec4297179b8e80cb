-- Reports that are put together of their columns and of the intervals that wait for them.
use Rattle.std.specs.Prelude.{ℕ, ◌==◌, List, [], ◌∷◌, ◌++◌, if◌then◌else◌}
use Rattle.std.specs.BTreeMap.{insert_entry}
use Rattle.std.specs.List.{flat_map}
use Rattle.std.specs.Ordering.{nat_cmp}
use Rattle.adr_objects.specs.declared.report.UsageInterval.{UsageInterval}
use Rattle.adr_state.specs.declared.portfolio.Report.{Report}
use Rattle.adr_db.specs.declared.report_columns.ReportColumns.{ReportColumns}
use Rattle.adr_db.specs.Kept.{whole_report}
use Rattle.adr_lent_image.specs.declared.reports.Merging.{Merging}

-- what waits for reports, in groups: what waits for one report stands behind its number
abbrev pub Groups : Type 0 → Type 0
Groups T = List (ℕ × List T)

-- ---- one comes

-- what the last group has, where it waits for the report of a number; else nothing
abbrev pub last_for : {T : Type 0} → ℕ → Groups T → List T
last_for n [] = []
last_for n (g ∷ []) = if g.0 == n then g.1 else []
last_for n (g ∷ h ∷ gs) = last_for n (h ∷ gs)

-- the groups without the last one, where that waits for the report of a number; else all
abbrev pub before_last : {T : Type 0} → ℕ → Groups T → Groups T
before_last n [] = []
before_last n (g ∷ []) = if g.0 == n then [] else g ∷ []
before_last n (g ∷ h ∷ gs) = g ∷ before_last n (h ∷ gs)

-- one more waits for its report: in the last group, where that waits for the same, and else in a group of its own
abbrev pub with_one : {T : Type 0} → Groups T → ℕ × T → Groups T
with_one groups e = before_last e.0 groups ++ (e.0, last_for e.0 groups ++ e.1 ∷ []) ∷ []

-- ---- a report takes them

-- what the first group has, where it waits for the report of a number; else nothing
abbrev pub first_for : {T : Type 0} → ℕ → Groups T → List T
first_for n [] = []
first_for n (g ∷ gs) = if g.0 == n then g.1 else []

-- the groups without the first one, where that waits for the report of a number; else all
abbrev pub after_first : {T : Type 0} → ℕ → Groups T → Groups T
after_first n [] = []
after_first n (g ∷ gs) = if g.0 == n then gs else g ∷ gs

-- the report of a number has its columns, and takes the intervals that wait for it
abbrev pub with_columns : Merging → ℕ × ReportColumns → Merging
with_columns merging e = record { waiting = after_first e.0 merging.waiting; reports = insert_entry nat_cmp merging.reports e.0 (whole_report e.1 (first_for e.0 merging.waiting)) }

-- ---- the intervals of reports

-- what waits for one report: no group where that is nothing
abbrev pub grouped : {T : Type 0} → ℕ → List T → Groups T
grouped n [] = []
grouped n (one ∷ more) = (n, one ∷ more) ∷ []

-- the intervals of each report that has some, behind its number
abbrev pub groups_of : List (ℕ × Report) → Groups UsageInterval
groups_of reports = flat_map (λ r. grouped r.0 r.1.body.intervals) reports
