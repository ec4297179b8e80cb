-- The latest value is that of the report of greatest revision.
use Rattle.std.proofs.Common.{◌≡◌, ◌≤◌, ◌⊎◌, inl, inr, ℕ, suc, ℤ, nat_lt, Bool, true, false, List, [], ◌∷◌, fold, Option, None, Some, IfSome, refl, arith, if◌then◌else◌}
use Rattle.std.proofs.lemmas.Bool.{ltb-true, ltb-false}
use Rattle.adr_view.proofs.Common.{AllByRecursion, Contains, All-from_recursion}
use Rattle.adr_state.specs.declared.portfolio.Report.{Report}
use Rattle.adr_view.specs.Rollups.{later, value_in, latest_of}
use Rattle.adr_view.specs.Laws.{IsOfGreatestRevision, LatestIsOfGreatestRevision}

-- ---- of two values

abbrev IsWithin : ℕ → Option (ℕ × ℤ) → Type 0
IsWithin most v = IfSome v (λ u. u.0 ≤ most)

-- the later one is one of them
later_is_one : (one other : Option (ℕ × ℤ)) (best : ℕ × ℤ) → later one other ≡ Some best → (one ≡ Some best) ⊎ (other ≡ Some best)
later_is_one None other best h = inr h
later_is_one (Some u) None best h = inl h
later_is_one (Some u) (Some v) best h = by (nat_lt u.0 v.0) h
  where
    by : (less : Bool) → (if less then Some v else Some u) ≡ Some best → (Some u ≡ Some best) ⊎ (Some v ≡ Some best)
    by true h = inr h
    by false h = inl h

-- and neither is above it
later_is_above : (one other : Option (ℕ × ℤ)) (most : ℕ) → IsWithin most (later one other) → IsWithin most one × IsWithin most other
later_is_above None None most h = (tt, tt)
later_is_above None (Some v) most h = (tt, h)
later_is_above (Some u) None most h = (h, tt)
later_is_above (Some u) (Some v) most h = by (nat_lt u.0 v.0) refl h
  where
    by : (less : Bool) → nat_lt u.0 v.0 ≡ less → IsWithin most (if less then Some v else Some u) → (u.0 ≤ most) × (v.0 ≤ most)
    by true is h = (let less = ltb-true u.0 v.0 is in omega (arith, less, h), h)
    by false is h = (h, let most_one = ltb-false u.0 v.0 is in omega (arith, most_one, h))

later_is_none : (one other : Option (ℕ × ℤ)) → later one other ≡ None → (one ≡ None) × (other ≡ None)
later_is_none None other h = (refl, h)
later_is_none (Some u) None h = absurd (cc)
later_is_none (Some u) (Some v) h = by (nat_lt u.0 v.0) h
  where
    by : (less : Bool) → (if less then Some v else Some u) ≡ None → (Some u ≡ None) × (Some v ≡ None)
    by true h = absurd (cc)
    by false h = absurd (cc)

-- ---- of many

module _ (id : ℤ) where
  abbrev from : Option (ℕ × ℤ) → List Report → Option (ℕ × ℤ)
  from start reports = fold (λ best report. later best (value_in id report)) start reports

  -- where one stands at first, and reports follow
  record IsBest (start : Option (ℕ × ℤ)) (reports : List Report) (best : ℕ × ℤ) : Type 0 where
    is_one : (start ≡ Some best) ⊎ ((report : Report) × Contains reports report × (value_in id report ≡ Some best))
    above_start : IsWithin best.0 start
    above_all : AllByRecursion (λ r. IsWithin best.0 (value_in id r)) reports

  best_of : (start : Option (ℕ × ℤ)) (reports : List Report) (best : ℕ × ℤ) → from start reports ≡ Some best → IsBest start reports best
  best_of start [] best h = record { is_one = inl h; above_start = rw h (omega arith); above_all = tt }
  best_of start (x ∷ xs) best h =
      let rest = best_of (later start (value_in id x)) xs best h in
      let both = later_is_above start (value_in id x) best.0 rest.above_start in
      record { is_one = by rest.is_one; above_start = both.0; above_all = (both.1, rest.above_all) }
    where
      here : (start ≡ Some best) ⊎ (value_in id x ≡ Some best) → (start ≡ Some best) ⊎ ((report : Report) × Contains (x ∷ xs) report × (value_in id report ≡ Some best))
      here (inl is) = inl is
      here (inr is) = inr (x, (0, omega arith, refl), is)

      by : (later start (value_in id x) ≡ Some best) ⊎ ((report : Report) × Contains xs report × (value_in id report ≡ Some best))
          → (start ≡ Some best) ⊎ ((report : Report) × Contains (x ∷ xs) report × (value_in id report ≡ Some best))
      by (inl is) = here (later_is_one start (value_in id x) best is)
      by (inr there) = inr (there.0, (suc there.1.0, omega (arith, there.1.1), there.1.2), there.2)

  none_of : (start : Option (ℕ × ℤ)) (reports : List Report) → from start reports ≡ None → (start ≡ None) × AllByRecursion (λ r. value_in id r ≡ None) reports
  none_of start [] h = (h, tt)
  none_of start (x ∷ xs) h =
      let rest = none_of (later start (value_in id x)) xs h in
      let both = later_is_none start (value_in id x) rest.0 in
      (both.0, (both.1, rest.1))

greatest : (id : ℤ) (reports : List Report) (best : ℕ × ℤ) → latest_of id reports ≡ Some best → IsOfGreatestRevision id reports best
greatest id reports best h = let is = best_of id None reports best h in by is.is_one is.above_all
  where
    by : (None ≡ Some best) ⊎ ((report : Report) × Contains reports report × (value_in id report ≡ Some best)) → AllByRecursion (λ r. IsWithin best.0 (value_in id r)) reports → IsOfGreatestRevision id reports best
    by (inl is) above = absurd (cc)
    by (inr there) above = record { report = there.0; is_there = there.1; has_it = there.2; none_is_greater = All-from_recursion (λ r. IsWithin best.0 (value_in id r)) reports above }

pub latest_is_greatest : LatestIsOfGreatestRevision
latest_is_greatest = record {
  of_some = greatest;
  of_none = λ id reports h. All-from_recursion (λ r. value_in id r ≡ None) reports (none_of id None reports h).1;
}
