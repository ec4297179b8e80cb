-- To put the intervals of a report one after another, where those that it had have gone, is to put the report.
use Rattle.std.proofs.Common.{◌≡◌, ◌≤◌, ◌<◌, ◌+◌, ℕ, suc, pos, Bool, true, not, cond, List, [], ◌∷◌, ◌++◌, filter, flat_map, drop, length, slice_index_or, drop-cons, add-one, refl, sym, ap, ap₂, ◌∙◌, arith, append_assoc, Less, Equal, Greater, Ordering, is_eq}
use Rattle.std.proofs.lemmas.Grind.{flat_map-append}
use Rattle.adr_db.proofs.Common.{AllByRecursion, insert_entry, is_at, match_ordering, nat_cmp, ordering_reverse, ordering_then, ranked, tied_itself, nat_cmp_total, Row, value_cmp-Int, all_weaker, key_order, with_row, then_none}
use Rattle.sqlite_trees.proofs.ListLemmas.{all-append, all-flat_map, filter_all}
use Rattle.adr_objects.specs.declared.report.UsageInterval.{UsageInterval}
use Rattle.adr_state.specs.declared.portfolio.Report.{Report}
use Rattle.std.specs.Map.{remove_entry}
use Rattle.adr_sql.specs.Keys.{has_key, rows_without}
use Rattle.adr_db.specs.Rows.{number_row, value_row, value_rows_from, value_rows}
use Rattle.adr_db.specs.Kept.{with_value_rows}
use Rattle.adr_db.proofs.Rows.{numbers_as_values, number_same_is}
use Rattle.adr_db.proofs.Reports.{NumbersRise, values_left, values_named}

-- ---- the order of the rows

places_as_rows : (m p : ℕ) (i : UsageInterval) (n q : ℕ) (j : UsageInterval) → key_order 2 (value_row m p i) (value_row n q j) ≡ ordering_then (nat_cmp m n) (nat_cmp p q)
places_as_rows m p i n q j = ap₂ ordering_then (value_cmp-Int (pos m) (pos n) ∙ numbers_as_values m n) (then_none _ ∙ value_cmp-Int (pos p) (pos q) ∙ numbers_as_values p q)

-- a row before those of the report of a number from a place on, and one behind all of them
abbrev IsBelow : ℕ → ℕ → Row → Type 0
IsBelow n place row = (q : ℕ) (j : UsageInterval) → place ≤ q → key_order 2 row (value_row n q j) ≡ Less

abbrev IsAbove : ℕ → Row → Type 0
IsAbove n row = (q : ℕ) (j : UsageInterval) → key_order 2 row (value_row n q j) ≡ Greater

below_later : (n place : ℕ) (row : Row) → IsBelow n place row → IsBelow n (suc place) row
below_later n place row below q j from = below q j (omega (arith, from))

itself_below : (n place : ℕ) (i : UsageInterval) → IsBelow n (suc place) (value_row n place i)
itself_below n place i q j from =
    let less : nat_cmp place q ≡ Less = number_less place q (omega (arith, from)) in
    places_as_rows n place i n q j ∙ ap (λ o. ordering_then o (nat_cmp place q)) (tied_itself nat_cmp_total n) ∙ less
  where
    number_less : (a b : ℕ) → a < b → nat_cmp a b ≡ Less
    number_less a b low = by (nat_cmp a b) refl
      where
        by : (o : Ordering) → nat_cmp a b ≡ o → nat_cmp a b ≡ Less
        by Less is = is
        by Equal is = let same = ranked a b Equal (sym is) in absurd (omega (arith, low, same))
        by Greater is = let more = ranked a b Greater (sym is) in absurd (omega (arith, low, more))

others_below : (m n place : ℕ) (intervals : List UsageInterval) → nat_cmp m n ≡ Less → AllByRecursion (IsBelow n 0) (value_rows_from m place intervals)
others_below m n place [] low = tt
others_below m n place (i ∷ intervals) low = ((λ q j from. places_as_rows m place i n q j ∙ ap (λ o. ordering_then o (nat_cmp place q)) low), others_below m n (suc place) intervals low)

others_above : (m n place : ℕ) (intervals : List UsageInterval) → nat_cmp m n ≡ Greater → AllByRecursion (IsAbove n) (value_rows_from m place intervals)
others_above m n place [] high = tt
others_above m n place (i ∷ intervals) high = ((λ q j. places_as_rows m place i n q j ∙ ap (λ o. ordering_then o (nat_cmp place q)) high), others_above m n (suc place) intervals high)

-- ---- rows go in where they belong

goes_behind : (n place : ℕ) (i : UsageInterval) (xs ys : List Row) → AllByRecursion (IsBelow n place) xs → AllByRecursion (IsAbove n) ys → with_row 2 (value_row n place i) (xs ++ ys) ≡ xs ++ value_row n place i ∷ ys
goes_behind n place i [] [] below above = refl
goes_behind n place i [] (y ∷ ys) below above = ap (λ o. match_ordering o (y ∷ with_row 2 (value_row n place i) ys) (value_row n place i ∷ ys) (value_row n place i ∷ y ∷ ys)) (above.0 place i)
goes_behind n place i (x ∷ xs) ys below above =
    ap (λ o. match_ordering o (x ∷ with_row 2 (value_row n place i) (xs ++ ys)) (value_row n place i ∷ (xs ++ ys)) (value_row n place i ∷ x ∷ (xs ++ ys))) (below.0 place i (omega arith))
    ∙ ap (λ l. x ∷ l) (goes_behind n place i xs ys below.1 above)

go_behind : (n place : ℕ) (intervals : List UsageInterval) (xs ys : List Row) → AllByRecursion (IsBelow n place) xs → AllByRecursion (IsAbove n) ys
    → with_value_rows (value_rows_from n place intervals) (xs ++ ys) ≡ xs ++ (value_rows_from n place intervals ++ ys)
go_behind n place [] xs ys below above = refl
go_behind n place (i ∷ intervals) xs ys below above =
    ap (with_value_rows (value_rows_from n (suc place) intervals)) (goes_behind n place i xs ys below above ∙ sym (append_assoc xs (value_row n place i ∷ []) ys))
    ∙ go_behind n (suc place) intervals (xs ++ value_row n place i ∷ []) ys
    (all-append (IsBelow n (suc place)) xs (value_row n place i ∷ []) (all_weaker (IsBelow n place) (IsBelow n (suc place)) (below_later n place) xs below) (itself_below n place i, tt)) above
    ∙ append_assoc xs (value_row n place i ∷ []) (value_rows_from n (suc place) intervals ++ ys)

-- of the intervals from a place on, the first goes in
pub one_put : (n place : ℕ) (intervals : List UsageInterval) (first : UsageInterval) (values : List Row) → place < length intervals → first ≡ slice_index_or intervals place first
    → with_value_rows (value_rows_from n place (drop place intervals)) values ≡ with_value_rows (value_rows_from n (place + 1) (drop (place + 1) intervals)) (with_row 2 (value_row n place first) values)
one_put n place intervals first values within is =
    ap (λ left. with_value_rows (value_rows_from n place left) values) (drop-cons intervals place first within)
    ∙ ap (λ (x : UsageInterval). with_value_rows (value_rows_from n (suc place) (drop (suc place) intervals)) (with_row 2 (value_row n place x) values)) (sym is)
    ∙ ap (λ next. with_value_rows (value_rows_from n next (drop next intervals)) (with_row 2 (value_row n place first) values)) (sym (add-one place))

-- ---- reports before a number and behind it

abbrev pub is_other : ℕ → ℕ × Report → Bool
is_other n e = not (is_eq (nat_cmp n e.0))

record IsParted (n : ℕ) (es : List (ℕ × Report)) : Type 0 where
  pub low : List (ℕ × Report)
  pub high : List (ℕ × Report)
  pub left : filter (is_other n) es ≡ low ++ high
  pub put : (report : Report) → insert_entry nat_cmp es n report ≡ low ++ (n, report) ∷ high
  pub below : AllByRecursion (λ e. nat_cmp e.0 n ≡ Less) low
  pub above : AllByRecursion (λ e. nat_cmp e.0 n ≡ Greater) high

behind : (n : ℕ) (es : List (ℕ × Report)) → AllByRecursion (λ e. nat_cmp n e.0 ≡ Less) es → (filter (is_other n) es ≡ es) × AllByRecursion (λ e. nat_cmp e.0 n ≡ Greater) es
behind n es low = (
  filter_all (is_other n) es (all_weaker (λ e. nat_cmp n e.0 ≡ Less) (λ e. is_other n e ≡ true) (λ e less. ap (λ o. not (is_eq o)) less) es low),
  all_weaker (λ e. nat_cmp n e.0 ≡ Less) (λ e. nat_cmp e.0 n ≡ Greater) (λ e less. nat_cmp_total.antisymm e.0 n ∙ ap ordering_reverse less) es low,
)

-- numbers that rise come once, so to remove one is to leave out all that have it
pub others_left : (n : ℕ) (es : List (ℕ × Report)) → NumbersRise es → filter (is_other n) es ≡ remove_entry (is_at (nat_cmp n)) es
others_left n [] up = refl
others_left n (e ∷ es) up = by (nat_cmp n e.0) refl (others_left n es up.1)
  where
    by : (o : Ordering) → nat_cmp n e.0 ≡ o → filter (is_other n) es ≡ remove_entry (is_at (nat_cmp n)) es → filter (is_other n) (e ∷ es) ≡ remove_entry (is_at (nat_cmp n)) (e ∷ es)
    by Less is more = rw is (ap (λ l. e ∷ l) more)
    by Equal is more = rw is (behind n es (all_weaker (λ x. nat_cmp e.0 x.0 ≡ Less) (λ x. nat_cmp n x.0 ≡ Less) (λ x less. nat_cmp_total.congr n e.0 x.0 is ∙ less) es up.0)).0
    by Greater is more = rw is (ap (λ l. e ∷ l) more)

parted : (n : ℕ) (es : List (ℕ × Report)) → NumbersRise es → IsParted n es
parted n [] up = record { low = []; high = []; left = refl; put = λ report. refl; below = tt; above = tt }
parted n (e ∷ es) up = by (nat_cmp n e.0) refl (parted n es up.1)
  where
    by : (o : Ordering) → nat_cmp n e.0 ≡ o → IsParted n es → IsParted n (e ∷ es)
    by Less is more =
        let them = behind n (e ∷ es) (is, all_weaker (λ x. nat_cmp e.0 x.0 ≡ Less) (λ x. nat_cmp n x.0 ≡ Less) (λ x less. nat_cmp_total.trans n e.0 x.0 is less) es up.0) in
        record { low = []; high = e ∷ es; left = them.0; put = λ report. ap (λ o. match_ordering o ((n, report) ∷ e ∷ es) ((e.0, report) ∷ es) (e ∷ insert_entry nat_cmp es n report)) is; below = tt; above = them.1 }
    by Equal is more =
        let them = behind n es (all_weaker (λ x. nat_cmp e.0 x.0 ≡ Less) (λ x. nat_cmp n x.0 ≡ Less) (λ x less. nat_cmp_total.congr n e.0 x.0 is ∙ less) es up.0) in
        record {
          low = [];
          high = es;
          left = ap (λ o. cond (not (is_eq o)) (e ∷ filter (is_other n) es) (filter (is_other n) es)) is ∙ them.0;
          put = λ report. ap (λ o. match_ordering o ((n, report) ∷ e ∷ es) ((e.0, report) ∷ es) (e ∷ insert_entry nat_cmp es n report)) is ∙ ap (λ k. (k, report) ∷ es) (sym (number_same_is n e.0 is));
          below = tt;
          above = them.1;
        }
    by Greater is more = record {
      low = e ∷ more.low;
      high = more.high;
      left = ap (λ o. cond (not (is_eq o)) (e ∷ filter (is_other n) es) (filter (is_other n) es)) is ∙ ap (λ l. e ∷ l) more.left;
      put = λ report. ap (λ o. match_ordering o ((n, report) ∷ e ∷ es) ((e.0, report) ∷ es) (e ∷ insert_entry nat_cmp es n report)) is ∙ ap (λ l. e ∷ l) (more.put report);
      below = (nat_cmp_total.antisymm e.0 n ∙ ap ordering_reverse is, more.below);
      above = more.above;
    }

-- ---- the intervals of the report that is put

pub report_put : (n : ℕ) (report : Report) (es : List (ℕ × Report)) → NumbersRise es
    → with_value_rows (value_rows (n, report)) (rows_without 1 (number_row n) (flat_map value_rows es)) ≡ flat_map value_rows (insert_entry nat_cmp es n report)
report_put n report es up =
    let parts = parted n es up in
    let left = values_left (λ row. not (has_key 1 (number_row n) row)) (is_other n) es (λ e has place i. ap not (values_named n e place i)) ∙ ap (flat_map value_rows) parts.left ∙ flat_map-append value_rows parts.low parts.high in
    let below = all-flat_map (IsBelow n 0) value_rows parts.low (all_weaker (λ e. nat_cmp e.0 n ≡ Less) (λ e. AllByRecursion (IsBelow n 0) (value_rows e)) (λ e low. others_below e.0 n 0 e.1.body.intervals low) parts.low parts.below) in
    let above = all-flat_map (IsAbove n) value_rows parts.high (all_weaker (λ e. nat_cmp e.0 n ≡ Greater) (λ e. AllByRecursion (IsAbove n) (value_rows e)) (λ e high. others_above e.0 n 0 e.1.body.intervals high) parts.high parts.above) in
    ap (with_value_rows (value_rows (n, report))) left ∙ go_behind n 0 report.body.intervals (flat_map value_rows parts.low) (flat_map value_rows parts.high) below above
    ∙ sym (flat_map-append value_rows parts.low ((n, report) ∷ parts.high)) ∙ ap (flat_map value_rows) (sym (parts.put report))
