-- What is kept for an event that is frozen, after each step and over whole runs.
use Rattle.std.proofs.Common.{◌≡◌, ◌≤◌, ℕ, Bool, true, false, cond, List, Option, Some, None, refl, sym, ap, subst, ◌∙◌, arith}
use Rattle.std.specs.Prelude.{IsSome, is_some}
use Rattle.std.specs.Map.{keys_of}
use Rattle.std.specs.Ordering.{nat_cmp}
use Rattle.adr_state.specs.declared.limits.Settings.{Settings}
use Rattle.adr_state.specs.declared.portfolio.Portfolio.{Portfolio}
use Rattle.adr_state.specs.declared.portfolio.Resource.{Resource}
use Rattle.adr_state.specs.declared.state.State.{State}
use Rattle.adr_state.specs.BaseChanges.{BaseChange, ChangePortfolio, JoinMarks, SetScan, changed}
use Rattle.adr_state.specs.Frozen.{is_frozen, frozen_weight}
use Rattle.adr_machine.specs.declared.command.Command.{Command}
use Rattle.adr_view.proofs.OrderLemmas.{InOrder}
use Rattle.adr_view.proofs.RowLemmas.{row_found}
use Rattle.adr_laws.specs.Entries.{reached}
use Rattle.adr_laws.specs.Standing.{state_of}
use Rattle.adr_laws.proofs.Common.{All-contains, Base, Contains, IsDistinct-from_sorted, at, empty, eq_by_cmp_equiv, lookup-from_Contains, nat_cmp_total, state_after, step_at}
use Rattle.adr_laws.proofs.Decisions.{after_step}
use Rattle.adr_laws.proofs.NumberLemmas.{both_from_here, each_number}
use Rattle.adr_laws.proofs.PortfolioLemmas.{Whole, step_whole, whole_after}
use Rattle.adr_laws.proofs.ReportLemmas.{reports_from_here}
use Rattle.adr_laws.proofs.RunLemmas.{run_keeps, state_of-append}
use Rattle.adr_laws.proofs.SubLemmas.{subs_from_here}
use Rattle.adr_frozen_laws.specs.FrozenRuns.{is_there, StaysFrozen, FrozenStay}
use Rattle.adr_frozen_laws.proofs.Weights.{change_stays, kept_there, stays_same}

-- a number that is of a row is found
pub number_there : {V : Type 0} (n : ℕ) (rows : List (ℕ × V)) → InOrder nat_cmp rows → Contains (keys_of rows) n → is_some (at nat_cmp n rows) ≡ true
number_there n rows up had =
    All-contains (λ m. is_some (at nat_cmp m rows) ≡ true) (keys_of rows) n
    (each_number (λ m. is_some (at nat_cmp m rows) ≡ true) rows (λ r there. ap is_some (lookup-from_Contains (eq_by_cmp_equiv nat_cmp_total) r.0 r.1 rows (IsDistinct-from_sorted nat_cmp (keys_of rows) up) there))) had

-- a base is whole since itself
pub since_itself : (first base : Base) → Whole first base → Whole base base
since_itself first base whole = ((both_from_here whole.0.0, whole.0.1, reports_from_here whole.0.2), subs_from_here whole.1)

module _ (first base : Base) (whole : Whole first base) (id : List ℕ) (frozen : is_frozen base.portfolio id ≡ true) where
  abbrev Stays : Portfolio → Type 0
  Stays q = StaysFrozen base.portfolio q id

  same : Stays base.portfolio
  same = stays_same base.portfolio whole.0.1.3 whole.0.0.others.in_order id frozen

  base_stays : (change : BaseChange) → Stays (changed change base).portfolio
  base_stays (JoinMarks marks scan) = same
  base_stays (SetScan scan) = same
  base_stays (ChangePortfolio change) = change_stays base.portfolio whole.0.1.3 whole.0.0.others.in_order id frozen change

-- one step
step_stays : (first : Base) (settings : Settings) (s : State) (c : ℕ × Command) (id : List ℕ) → Whole first s.base → is_frozen s.base.portfolio id ≡ true → StaysFrozen s.base.portfolio (state_after s (step_at settings s c)).base.portfolio id
step_stays first settings s c id whole frozen =
    after_step settings s c (λ r. StaysFrozen s.base.portfolio (state_after s r).base.portfolio id) (λ refusal. same first s.base whole id frozen) (λ a o is done. same first s.base whole id frozen) (λ d a is. base_stays first s.base whole id frozen d.change)

-- a number that is of a resource after a step, and was drawn before it, was of one before it
was_there : (first : Base) (settings : Settings) (s : State) (c : ℕ × Command) (n : ℕ) → Whole first s.base → n ≤ s.base.serial → is_there (state_after s (step_at settings s c)).base.portfolio n ≡ true → is_there s.base.portfolio n ≡ true
was_there first settings s c n whole low there =
    let next = state_after s (step_at settings s c) in
    let after : Whole s.base next.base = step_whole s.base settings s c (since_itself first s.base whole) in
    let row = row_found n next.base.portfolio.resources (found_of (at nat_cmp n next.base.portfolio.resources) there) in
    let had = (after.0.0.others.drawn (n, row.0) row.1).was_there low in
    number_there n s.base.portfolio.resources whole.0.0.others.in_order had
  where
    found_of : (o : Option Resource) → is_some o ≡ true → IsSome o
    found_of (Some r) is = refl
    found_of None is = is

-- two steps, and then one: what goes is gone
twice : (before now next : Portfolio) (id : List ℕ) → ((n w : ℕ) → frozen_weight before id n ≡ Some w → is_there next n ≡ true → is_there now n ≡ true) → StaysFrozen before now id → StaysFrozen now next id → StaysFrozen before next id
twice before now next id none_comes_back one two = record {
  frozen = two.frozen;
  weights = λ n. two.weights n ∙ ap (λ (weight : Option ℕ). cond (is_there next n) weight None) (one.weights n) ∙ by n (is_there next n) (frozen_weight before id n) refl refl;
}
  where
    by : (n : ℕ) (b : Bool) (o : Option ℕ) → is_there next n ≡ b → frozen_weight before id n ≡ o → cond b (cond (is_there now n) o None) None ≡ cond b o None
    by n false o there kept = refl
    by n true None there kept = cond_none (is_there now n)
      where
        cond_none : (b : Bool) → cond {A = Option ℕ} b None None ≡ None
        cond_none true = refl
        cond_none false = refl
    by n true (Some w) there kept = ap (λ (b : Bool). cond b (Some w) None) (none_comes_back n w kept there)

module _ (settings : Settings) (s : State) (whole : Whole s.base s.base) (id : List ℕ) (frozen : is_frozen s.base.portfolio id ≡ true) where
  record HasStayed (t : State) : Type 0 where
    since : Whole s.base t.base
    kept : StaysFrozen s.base.portfolio t.base.portfolio id

  low : (n w : ℕ) → frozen_weight s.base.portfolio id n ≡ Some w → n ≤ s.base.serial
  low n w is =
      let row = row_found n s.base.portfolio.resources (kept_there s.base.portfolio whole.0.1.3 id n w is) in
      (whole.0.0.others.drawn (n, row.0) row.1).up_to_the_serial

  step_keeps : (t : State) (c : ℕ × Command) → HasStayed t → HasStayed (state_after t (step_at settings t c))
  step_keeps t c h = record {
    since = step_whole s.base settings t c h.since;
    kept = twice s.base.portfolio t.base.portfolio (state_after t (step_at settings t c)).base.portfolio id
        (λ n w is there. was_there s.base settings t c n h.since (let one = low n w is in let rose = h.since.0.0.rose in omega (arith, one, rose)) there)
        h.kept (step_stays s.base settings t c id h.since h.kept.frozen);
  }

  pub run_stays : (more : List (ℕ × Command)) → StaysFrozen s.base.portfolio (state_of (step_at settings) s more).base.portfolio id
  run_stays more = (run_keeps (step_at settings) HasStayed step_keeps s more (record { since = whole; kept = stays_same s.base.portfolio whole.0.1.3 whole.0.0.others.in_order id frozen })).kept

-- ---- the law

pub frozen_stay : FrozenStay
frozen_stay settings cs more id frozen =
    let s : State = reached settings cs in
    subst (λ (t : State). StaysFrozen s.base.portfolio t.base.portfolio id) (sym (state_of-append (step_at settings) empty cs more)) (run_stays settings s (since_itself empty.base s.base (whole_after settings cs)) id frozen more)
