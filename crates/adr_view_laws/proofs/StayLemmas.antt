-- A report that is not named stays as it was, as long as its resource is there.
use Rattle.std.proofs.Common.{◌≡◌, ◌≤◌, ℕ, ◌+◌, ◌==◌, Bool, true, false, cond, not, ◌⊎◌, inl, inr, List, filter, Option, Some, None, Result, Ok, Err, IfOk, refl, sym, ap, subst, ◌∙◌, eqb-true, arith}
use Rattle.std.specs.Prelude.{◌≢◌, IsSome}
use Rattle.std.specs.Map.{remove_entry}
use Rattle.std.specs.Option.{option_map_or}
use Rattle.std.specs.Ordering.{is_eq}
use Rattle.std.proofs.lemmas.Bool.{cond_both}
use Rattle.std.proofs.lemmas.Cmp.{tied_itself}
use Rattle.std.proofs.lemmas.Map.{lookup-remove_entry}
use Rattle.std.proofs.lemmas.Map.Entries.{lookup-filter-values, option_filter}
use Rattle.adr_text.specs.declared.refusal.Refusal.{Refusal}
use Rattle.adr_state.specs.declared.portfolio.Portfolio.{Portfolio}
use Rattle.adr_state.specs.declared.portfolio.Report.{Report}
use Rattle.adr_state.specs.declared.portfolio.Resource.{Resource}
use Rattle.adr_state.specs.Frozen.{is_frozen}
use Rattle.adr_view.proofs.FrozenLemmas.{frozen_now}
use Rattle.adr_state.specs.Portfolios.{PortfolioChange, PutVen, DropVen, PutResource, DropResource, PutShare, DropShare, PutReport, DropReport, PutSub, DropSub, Freeze, is_of_ven, portfolio_after, reported_on}
use Rattle.adr_state.proofs.LawLemmas.{at-insert_entry}
use Rattle.adr_view.specs.Laws.{StandsInOrder}
use Rattle.adr_view.proofs.OrderLemmas.{InOrder}
use Rattle.adr_queries.specs.declared.answer.Answer.{Answer}
use Rattle.adr_laws.specs.Entries.{reached}
use Rattle.adr_laws.proofs.Common.{Base, BaseChange, ChangePortfolio, Command, Contains, Contains-from_lookup, IsDistinct-from_sorted, JoinMarks, SetScan, State, at, changed, empty, eq_by_cmp_equiv, exact_unsigned, false_from_ne_true, false≢true, insert_entry, is_at, keys_of, nat_cmp, nat_cmp_total, state_after, step_at, tells_apart, unsigned_tied}
use Rattle.adr_laws.proofs.PortfolioLemmas.{rows_in_order, whole_after}
use Rattle.adr_laws.proofs.RunLemmas.{state_of-push}
use Rattle.adr_machine.specs.Named.{NamesReport}
use Rattle.adr_view_laws.specs.KeptReports.{ReportsStay}
use Rattle.adr_view_laws.proofs.NamedLemmas.{IsChangedAsNamed, step_named}
use Rattle.adr_machine.proofs.Rooms.{ChangesAsNamed, PutsAsNamed}

-- ---- rows of numbers

-- numbers that differ don't tie
apart : (m n : ℕ) → m ≢ n → is_eq (nat_cmp m n) ≡ false
apart m n differ = unsigned_tied m n ∙ false_from_ne_true (m == n) (λ same. differ (eqb-true m n same))

module _ {V : Type 0} (n : ℕ) (rows : List (ℕ × V)) where
  -- what is put under another number leaves what is found
  found_beside_put : (m : ℕ) (v : V) → n ≢ m → at nat_cmp n (insert_entry nat_cmp rows m v) ≡ at nat_cmp n rows
  found_beside_put m v differ = at-insert_entry nat_cmp_total n m v rows ∙ rw (apart n m differ) refl

  -- what is left by a removal
  found_removed : (m : ℕ) → InOrder nat_cmp rows → at nat_cmp n (remove_entry (is_at (nat_cmp m)) rows) ≡ cond (is_eq (nat_cmp m n)) None (at nat_cmp n rows)
  found_removed m ordered = let laws = eq_by_cmp_equiv nat_cmp_total in lookup-remove_entry laws (is_at (nat_cmp m)) (λ x y. laws.congr m x y) n rows (IsDistinct-from_sorted nat_cmp (keys_of rows) ordered)

  -- what passes a test is found among those that do
  found_passing : (passes : V → Bool) → InOrder nat_cmp rows → at nat_cmp n (filter (λ r. passes r.1) rows) ≡ option_filter passes (at nat_cmp n rows)
  found_passing passes ordered = lookup-filter-values (eq_by_cmp_equiv nat_cmp_total) passes n rows (IsDistinct-from_sorted nat_cmp (keys_of rows) ordered)

-- ---- resources that are left

-- one that is found among those of other vens is of another
is_of_another : (n : ℕ) (o : Option Resource) → IsSome (option_filter (λ r. not (r.ven == n)) o) → not (option_map_or (λ r. r.ven == n) o false) ≡ true
is_of_another n None found = absurd (false≢true found)
is_of_another n (Some r) found = by (not (r.ven == n)) found
  where
    by : (b : Bool) → IsSome (cond b (Some r) None) → b ≡ true
    by true found = refl
    by false found = absurd (false≢true found)

-- one that is found after a removal was not removed
not_removed : {V : Type 0} (n m : ℕ) (o : Option V) → IsSome (cond (is_eq (nat_cmp m n)) None o) → not (n == m) ≡ true
not_removed n m o found = ap not (false_from_ne_true (n == m) (λ same.
    let itself : IsSome (cond (is_eq (nat_cmp m m)) None o) = subst (λ (k : ℕ). IsSome (cond (is_eq (nat_cmp m k)) None o)) (eqb-true n m same) found in
    false≢true (subst (λ order. IsSome (cond (is_eq order) None o)) (tied_itself nat_cmp_total m) itself)))

-- ---- a change

-- a report is there as it was, where its resource is there
abbrev StaysIn : ℕ × Report → Portfolio → Type 0
StaysIn r p = IsSome (at nat_cmp (reported_on r) p.resources) → at nat_cmp r.0 p.reports ≡ Some r.1

module _ (next : ℕ) (c : Command) (n : ℕ) (report : Report) (drawn : n ≢ next) (free : NamesReport c n → ⊥) where
  module _ (p : Portfolio) (resources : InOrder nat_cmp p.resources) (reports : InOrder nat_cmp p.reports) (was : at nat_cmp n p.reports ≡ Some report) where
    -- among the reports that pass a test that it passes
    passing_stays : (passes : Report → Bool) → passes report ≡ true → at nat_cmp n (filter (λ r. passes r.1) p.reports) ≡ Some report
    passing_stays passes does = found_passing n p.reports passes reports ∙ ap (option_filter passes) was ∙ rw does refl

    not_the_one : (m : ℕ) → (m ≡ next) ⊎ NamesReport c m → n ≢ m
    not_the_one m (inl new) same = drawn (same ∙ new)
    not_the_one m (inr named) same = free (subst (NamesReport c) (sym same) named)

    portfolio_stays : (change : PortfolioChange) → PutsAsNamed next (NamesReport c) change → StaysIn (n, report) (portfolio_after change p)
    portfolio_stays (PutVen m ven) named there = was
    portfolio_stays (DropVen m) named there =
        passing_stays (λ r. not (is_of_ven m p.resources r.body.head.resource)) (is_of_another m (at nat_cmp report.body.head.resource p.resources) (subst IsSome (found_passing report.body.head.resource p.resources (λ r. not (r.ven == m)) resources) there))
    portfolio_stays (PutResource m resource) named there = was
    portfolio_stays (DropResource m) named there =
        passing_stays (λ r. not (r.body.head.resource == m)) (not_removed report.body.head.resource m (at nat_cmp report.body.head.resource p.resources) (subst IsSome (found_removed report.body.head.resource p.resources m resources) there))
    portfolio_stays (PutShare key weight) named there = was
    portfolio_stays (DropShare key) named there = was
    portfolio_stays (PutReport m other) named there = found_beside_put n p.reports m other (not_the_one m named) ∙ was
    portfolio_stays (DropReport m) named there = found_removed n p.reports m reports ∙ rw (apart m n (λ same. free (subst (NamesReport c) same named))) was
    portfolio_stays (PutSub m sub) named there = was
    portfolio_stays (DropSub m) named there = was
    portfolio_stays (Freeze id pairs) named there = cond_both (is_frozen p id) p (frozen_now p id pairs) (StaysIn (n, report)) (λ frozen found. was) (λ fresh found. was) there

  base_stays : (base : Base) → StandsInOrder base → at nat_cmp n base.portfolio.reports ≡ Some report → (change : BaseChange) → ChangesAsNamed next (NamesReport c) change → StaysIn (n, report) (changed change base).portfolio
  base_stays base stands was (JoinMarks marks scan) named there = was
  base_stays base stands was (SetScan scan) named there = was
  base_stays base stands was (ChangePortfolio change) named there = portfolio_stays base.portfolio stands.resources stands.reports was change named there

-- ---- a run

pub reports_stay : ReportsStay
reports_stay settings cs c n report was free = subst Stays (sym (state_of-push (step_at settings) empty cs c)) (by (step_at settings s c) (step_named settings s c.0 c.1))
  where
    s : State
    s = reached settings cs

    Stays : State → Type 0
    Stays t = StaysIn (n, report) t.base.portfolio

    not_next : n ≢ s.base.serial + 1
    not_next same =
        let row : Contains s.base.portfolio.reports (n, report) = Contains-from_lookup (tells_apart exact_unsigned) n report s.base.portfolio.reports was in
        let low : n ≤ s.base.serial = ((whole_after settings cs).0.2.own.drawn (n, report) row).up_to_the_serial in
        omega (arith, same, low)

    by : (r : Result (Answer × State) Refusal) → IfOk r (λ taken. IsChangedAsNamed s c.1 taken.1.base) → Stays (state_after s r)
    by (Ok taken) made = subst (StaysIn (n, report)) (sym made.2) (base_stays (s.base.serial + 1) c.1 n report not_next free s.base (rows_in_order settings cs) was made.0 made.1)
    by (Err refusal) made = λ there. was
