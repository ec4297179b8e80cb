-- Intervals that wait for their reports, and reports that take them.
use Rattle.std.proofs.Common.{◌≡◌, ℕ, true, false, cond, List, [], ◌∷◌, ◌++◌, map, fold, refl, sym, ap, ap₂, ◌∙◌, Less, arith, eq-eqb}
use Rattle.std.specs.Prelude.{◌==◌}
use Rattle.std.specs.List.{flat_map}
use Rattle.std.proofs.lemmas.Bool.Decides.{nat_tests}
use Rattle.std.proofs.lemmas.List.{append-nil, append_assoc}
use Rattle.std.proofs.lemmas.List.Sums.{fold-append}
use Rattle.adr_objects.specs.declared.report.UsageInterval.{UsageInterval}
use Rattle.adr_state.specs.Keys.{with_rows}
use Rattle.adr_db.proofs.Common.{AllByRecursion, State, Report, all_of, insert_entry, nat_cmp}
use Rattle.adr_sql.proofs.KeyedMaps.{entries_again}
use Rattle.adr_db.specs.Kept.{Kept, Keeps, contents_of, whole_report}
use Rattle.adr_db.proofs.Entries.{NumbersRise}
use Rattle.adr_db.proofs.Maps.{report_rows}
use Rattle.adr_db.proofs.Reports.{columns_of}
use Rattle.adr_db.proofs.Rises.{reports_rise}
use Rattle.adr_lent_image.specs.declared.reports.Merging.{Merging}
use Rattle.adr_lent_image.specs.Merged.{Groups, last_for, before_last, with_one, first_for, after_first, with_columns, grouped, groups_of}
use Rattle.adr_lent_image.proofs.ReadLemmas.{entries_of}

-- ---- numbers

itself : (n : ℕ) → (n == n) ≡ true
itself n = eq-eqb n n refl

below_apart : (m n : ℕ) → nat_cmp m n ≡ Less → (m == n) ≡ false
below_apart m n below = grind (arith, nat_tests)

above_apart : (m n : ℕ) → nat_cmp m n ≡ Less → (n == m) ≡ false
above_apart m n below = grind (arith, nat_tests)

-- ---- one comes

module _ {T : Type 0} where
  -- what is last is found at the end
  pub last_added : (n : ℕ) (gs : Groups T) (g : ℕ × List T) → last_for n (gs ++ g ∷ []) ≡ cond (g.0 == n) g.1 []
  last_added n [] g = refl
  last_added n (h ∷ []) g = refl
  last_added n (h ∷ k ∷ gs) g = last_added n (k ∷ gs) g

  pub before_added : (n : ℕ) (gs : Groups T) (g : ℕ × List T) → before_last n (gs ++ g ∷ []) ≡ gs ++ cond (g.0 == n) [] (g ∷ [])
  before_added n [] g = refl
  before_added n (h ∷ []) g = refl
  before_added n (h ∷ k ∷ gs) g = ap (λ gs. h ∷ gs) (before_added n (k ∷ gs) g)

  -- groups that all wait for reports of lower numbers
  abbrev AreBelow : ℕ → Groups T → Type 0
  AreBelow n = AllByRecursion (λ g. nat_cmp g.0 n ≡ Less)

  none_last : (n : ℕ) (gs : Groups T) → AreBelow n gs → last_for n gs ≡ []
  none_last n [] below = refl
  none_last n (g ∷ []) below = ap (λ b. cond b g.1 []) (below_apart g.0 n below.0)
  none_last n (g ∷ h ∷ gs) below = none_last n (h ∷ gs) below.1

  all_before : (n : ℕ) (gs : Groups T) → AreBelow n gs → before_last n gs ≡ gs
  all_before n [] below = refl
  all_before n (g ∷ []) below = ap (λ b. cond b [] (g ∷ [])) (below_apart g.0 n below.0)
  all_before n (g ∷ h ∷ gs) below = ap (λ gs. g ∷ gs) (all_before n (h ∷ gs) below.1)

  -- the first for its report, and one more for the same
  first_comes : (n : ℕ) (gs : Groups T) (x : T) → AreBelow n gs → with_one gs (n, x) ≡ gs ++ (n, x ∷ []) ∷ []
  first_comes n gs x below = ap₂ (λ (gs : Groups T) (xs : List T). gs ++ (n, xs ++ x ∷ []) ∷ []) (all_before n gs below) (none_last n gs below)

  next_comes : (n : ℕ) (gs : Groups T) (xs : List T) (x : T) → with_one (gs ++ (n, xs) ∷ []) (n, x) ≡ gs ++ (n, xs ++ x ∷ []) ∷ []
  next_comes n gs xs x =
      ap₂ (λ (gs : Groups T) (xs : List T). gs ++ (n, xs ++ x ∷ []) ∷ []) (before_added n gs (n, xs) ∙ ap (λ b. gs ++ cond b [] ((n, xs) ∷ [])) (itself n) ∙ append-nil gs)
      (last_added n gs (n, xs) ∙ ap (λ b. cond b xs []) (itself n))

  -- those of one report come
  more_come : (n : ℕ) (gs : Groups T) (xs more : List T) → fold with_one (gs ++ (n, xs) ∷ []) (map (λ x. (n, x)) more) ≡ gs ++ (n, xs ++ more) ∷ []
  more_come n gs xs [] = ap (λ (l : List T). gs ++ (n, l) ∷ []) (sym (append-nil xs))
  more_come n gs xs (x ∷ more) =
      ap (λ (gs : Groups T). fold with_one gs (map (λ x. (n, x)) more)) (next_comes n gs xs x) ∙ more_come n gs (xs ++ x ∷ []) more ∙ ap (λ (l : List T). gs ++ (n, l) ∷ []) (append_assoc xs (x ∷ []) more)

  some_come : (n : ℕ) (gs : Groups T) (xs : List T) → AreBelow n gs → fold with_one gs (map (λ x. (n, x)) xs) ≡ gs ++ grouped n xs
  some_come n gs [] below = sym (append-nil gs)
  some_come n gs (x ∷ xs) below = ap (λ (gs : Groups T). fold with_one gs (map (λ x. (n, x)) xs)) (first_comes n gs x below) ∙ more_come n gs (x ∷ []) xs

  -- then all wait for reports of lower numbers than those that follow
  below_next : (m n : ℕ) (gs : Groups T) (xs : List T) → nat_cmp m n ≡ Less → AreBelow n gs → AreBelow n (gs ++ grouped m xs)
  below_next m n [] [] lower below = tt
  below_next m n [] (x ∷ xs) lower below = (lower, tt)
  below_next m n (g ∷ gs) xs lower below = (below.0, below_next m n gs xs lower below.1)

-- ---- those of all reports come

below_others : (n : ℕ) (gs : Groups UsageInterval) (xs : List UsageInterval) (rs : List (ℕ × Report)) → AllByRecursion (λ r. nat_cmp n r.0 ≡ Less) rs → AllByRecursion (λ r. AreBelow r.0 gs) rs → AllByRecursion (λ r. AreBelow r.0 (gs ++ grouped n xs)) rs
below_others n gs xs [] lower below = tt
below_others n gs xs (r ∷ rs) lower below = (below_next n r.0 gs xs lower.0 below.0, below_others n gs xs rs lower.1 below.1)

all_come : (rs : List (ℕ × Report)) → NumbersRise rs → (gs : Groups UsageInterval) → AllByRecursion (λ r. AreBelow r.0 gs) rs → fold with_one gs (flat_map entries_of rs) ≡ gs ++ groups_of rs
all_come [] up gs below = sym (append-nil gs)
all_come (r ∷ rs) up gs below =
    let those = grouped r.0 r.1.body.intervals in
    fold-append with_one gs (entries_of r) (flat_map entries_of rs) ∙ ap (λ (gs : Groups UsageInterval). fold with_one gs (flat_map entries_of rs)) (some_come r.0 gs r.1.body.intervals below.0)
    ∙ all_come rs up.1 (gs ++ those) (below_others r.0 gs r.1.body.intervals rs up.0 below.1) ∙ append_assoc gs those (groups_of rs)

-- so those of each report that is kept wait behind its number
pub each_waits : (kept : Kept) (s : State) → Keeps kept s → fold with_one [] (flat_map entries_of kept.portfolio.reports) ≡ groups_of kept.portfolio.reports
each_waits kept s was = all_come kept.portfolio.reports (reports_rise kept s was) [] (all_of _ (λ r. tt) kept.portfolio.reports)

-- ---- reports take them

-- where all that wait do so for reports of higher numbers, none does for this one
none_first : (n : ℕ) (rs : List (ℕ × Report)) → AllByRecursion (λ r. nat_cmp n r.0 ≡ Less) rs → (first_for n (groups_of rs) ≡ []) × (after_first n (groups_of rs) ≡ groups_of rs)
none_first n [] above = (refl, refl)
none_first n (r ∷ rs) above = by r.1.body.intervals (none_first n rs above.1)
  where
    by : (xs : List UsageInterval) → (first_for n (groups_of rs) ≡ []) × (after_first n (groups_of rs) ≡ groups_of rs)
        → (first_for n (grouped r.0 xs ++ groups_of rs) ≡ []) × (after_first n (grouped r.0 xs ++ groups_of rs) ≡ grouped r.0 xs ++ groups_of rs)
    by [] rest = rest
    by (x ∷ xs) rest = let other = above_apart n r.0 above.0 in (ap (λ b. cond b (x ∷ xs) []) other, ap (λ b. cond b (groups_of rs) ((r.0, x ∷ xs) ∷ groups_of rs)) other)

-- the first of the reports finds its own
own_first : (n : ℕ) (xs : List UsageInterval) (rs : List (ℕ × Report)) → AllByRecursion (λ r. nat_cmp n r.0 ≡ Less) rs → (first_for n (grouped n xs ++ groups_of rs) ≡ xs) × (after_first n (grouped n xs ++ groups_of rs) ≡ groups_of rs)
own_first n [] rs above = none_first n rs above
own_first n (x ∷ xs) rs above = (ap (λ b. cond b (x ∷ xs) []) (itself n), ap (λ b. cond b (groups_of rs) ((n, x ∷ xs) ∷ groups_of rs)) (itself n))

all_taken : (rs : List (ℕ × Report)) → NumbersRise rs → (reports : List (ℕ × Report)) → (fold with_columns (record { waiting = groups_of rs; reports = reports }) (map columns_of rs)).reports ≡ with_rows nat_cmp reports rs
all_taken [] up reports = refl
all_taken (r ∷ rs) up reports =
    let own = own_first r.0 r.1.body.intervals rs up.0 in
    ap₂ (λ (waiting : Groups UsageInterval) (intervals : List UsageInterval).
    let merging : Merging = record { waiting = waiting; reports = insert_entry nat_cmp reports r.0 (whole_report (columns_of r).1 intervals) } in (fold with_columns merging (map columns_of rs)).reports) own.1 own.0
    ∙ all_taken rs up.1 (insert_entry nat_cmp reports r.0 r.1)

-- so they are the reports that are kept
pub reports_taken : (kept : Kept) (s : State) → Keeps kept s → (waiting : Groups UsageInterval) → waiting ≡ groups_of kept.portfolio.reports
    → (fold with_columns (record { waiting = waiting; reports = [] }) (map columns_of kept.portfolio.reports)).reports ≡ kept.portfolio.reports
reports_taken kept s was waiting waits =
    let rs = kept.portfolio.reports in
    ap (λ (waiting : Groups UsageInterval). let merging : Merging = record { waiting = waiting; reports = [] } in (fold with_columns merging (map columns_of rs)).reports) waits
    ∙ all_taken rs (reports_rise kept s was) [] ∙ entries_again report_rows (contents_of kept) rs refl s was.rows
