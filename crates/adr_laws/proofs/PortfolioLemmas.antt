-- After every step each resource has its ven, each share its resource and a weight, each report its resource, each subscription of a ven that ven, no two vens have one name, and no two resources; and each ven, resource, report and subscription has a number of its own, that is drawn once.
use Rattle.std.proofs.Common.{◌≡◌, ℕ, ◌+◌, ◌≤◌, Bool, true, false, not, ◌==◌, List, [], ◌++◌, filter, map, Option, Some, None, inl, inr, sym, subst, arith, refl}
use Rattle.std.specs.Prelude.{IsSome}
use Rattle.adr_laws.proofs.Common.{All, All-append, All-contains, All-map, Contains, nat_cmp, keys_of, is_at, nat_cmp_total, eq_by_cmp_equiv, IsDistinct-from_sorted, exact_unsigned, Base, Settings, State, share_cmp, at, empty, ven_name, resource_name, BaseChange, JoinMarks, SetScan, ChangePortfolio, changed, Command, state_after, step_at}
use Rattle.std.specs.Option.{option_map_or}
use Rattle.std.proofs.lemmas.Map.Entries.{option_filter, lookup-filter-values}
use Rattle.adr_state.specs.declared.portfolio.Portfolio.{Portfolio}
use Rattle.adr_state.specs.declared.portfolio.Resource.{Resource}
use Rattle.adr_state.specs.declared.keys.FrozenKey.{FrozenKey}
use Rattle.adr_state.specs.declared.keys.ShareKey.{ShareKey}
use Rattle.adr_state.specs.declared.portfolio.Report.{Report}
use Rattle.adr_state.specs.Frozen.{is_frozen, is_of_event, frozen_row, with_pairs, with_frozen}
use Rattle.adr_state.specs.Weights.{most_weight}
use Rattle.adr_state.specs.Portfolios.{is_of_ven, reported_on, PortfolioChange, PutVen, DropVen, PutResource, DropResource, PutShare, DropShare, PutReport, DropReport, PutSub, DropSub, Freeze, portfolio_after}
use Rattle.adr_machine.specs.Edits.{draws_number}
use Rattle.adr_laws.specs.Standing.{state_of}
use Rattle.adr_laws.specs.Laws.{HasVen, HasResource, HasWeight, HasFrozenResource, HasFrozenWeight, HasReported, HasOwner, NamesDiffer, PortfolioIsWhole, RowsStandInOrder, AreDrawnOnce, numbers_of, NumbersAreOwn, RevisionsAreOwn, NumbersAreDrawnOnce}
use Rattle.adr_laws.proofs.Decisions.{FitsPortfolio, IsOfShare, FitsBase, next_by, rises_on, after_step}
use Rattle.adr_laws.proofs.MirrorLemmas.{mirror_in_order}
use Rattle.adr_laws.proofs.NumberLemmas.{serial_then, rises, HaveOwn, BothOwn, IsDrawn, none_own, turned, some_both, put_both, both_from_here, each_number, each_drawn}
use Rattle.adr_laws.proofs.ReportLemmas.{HaveReports, is_one, one_put, no_reports, some_reports, later_reports, reports_from_here, put_reports, reports_differ}
use Rattle.adr_laws.proofs.SubLemmas.{IsUsed, HaveSubs, no_subs, subs_after, later_subs, subs_from_here, subs_differ}
use Rattle.adr_view.proofs.FrozenLemmas.{frozen_now, now_frozen, still_frozen}
use Rattle.adr_view.proofs.KeyLemmas.{frozen_exact, share_exact}
use Rattle.adr_view.proofs.OrderLemmas.{InOrder, in_order_removed, in_order_filtered}
use Rattle.adr_view.proofs.RowLemmas.{all_rows, each_there, from_put, from_removal, from_filter, found_after_put, found_after_removal}
use Rattle.adr_laws.proofs.RunLemmas.{run_keeps, state_of-append}

-- a resource that is there and of another ven passes the filter of those
of_another : (n : ℕ) (o : Option Resource) → IsSome o → not (option_map_or (λ r. r.ven == n) o false) ≡ true → IsSome (option_filter (λ r. not (r.ven == n)) o)
of_another n None found other = found
of_another n (Some r) found other = rw other refl

-- so a number that is found among the resources is found among those of other vens, where it is of none of the ven's
still_found : (n m : ℕ) (resources : List (ℕ × Resource)) → InOrder nat_cmp resources → IsSome (at nat_cmp m resources) → not (is_of_ven n resources m) ≡ true → IsSome (at nat_cmp m (filter (λ r. not (r.1.ven == n)) resources))
still_found n m resources sorted found other =
    subst IsSome (sym (lookup-filter-values (eq_by_cmp_equiv nat_cmp_total) (λ r. not (r.ven == n)) m resources (IsDistinct-from_sorted nat_cmp (keys_of resources) sorted))) (of_another n (at nat_cmp m resources) found other)

-- each frozen share has its resource, and a weight
pub record FrozenStands (p : Portfolio) : Type 0 where
  pub have_resources : (s : FrozenKey × ℕ) → Contains p.frozen_shares s → HasFrozenResource p.resources s
  pub have_weights : (s : FrozenKey × ℕ) → Contains p.frozen_shares s → HasFrozenWeight s

-- those that are left
frozen_left : (p q : Portfolio) → FrozenStands p → ((s : FrozenKey × ℕ) → Contains q.frozen_shares s → Contains p.frozen_shares s) → ((s : FrozenKey × ℕ) → Contains q.frozen_shares s → HasFrozenResource p.resources s → HasFrozenResource q.resources s) → FrozenStands q
frozen_left p q h from found = record { have_resources = λ s there. found s there (h.have_resources s (from s there)); have_weights = λ s there. h.have_weights s (from s there) }

-- and those of an event that is frozen with pairs of shares
frozen_more : (p : Portfolio) (id : List ℕ) (pairs : List (ℕ × ℕ)) → ((s : ShareKey × ℕ) → Contains p.shares s → HasWeight s) → ((pair : ℕ × ℕ) → Contains pairs pair → IsOfShare p pair) → FrozenStands p → FrozenStands (frozen_now p id pairs)
frozen_more p id pairs weights fits h = record { have_resources = λ s there. (one s there).0; have_weights = λ s there. (one s there).1 }
  where
    Both : FrozenKey × ℕ → Type 0
    Both s = HasFrozenResource p.resources s × HasFrozenWeight s

    others : List (FrozenKey × ℕ)
    others = filter (λ s. not (is_of_event id s)) p.frozen_shares

    new : (pair : ℕ × ℕ) → Contains pairs pair → Both (frozen_row id pair)
    new pair there = let is = fits pair there in (is.resource, subst (λ (w : ℕ). (1 ≤ w) × (w ≤ most_weight)) is.same_weight (weights is.share is.is_there))

    one : (s : FrozenKey × ℕ) → Contains (with_pairs id pairs p.frozen_shares) s → Both s
    one s there =
        All-contains Both (with_pairs id pairs p.frozen_shares) s
        (all_rows frozen_exact Both others (map (frozen_row id) pairs) (each_there Both others (λ s there. let old = (from_filter (λ s. not (is_of_event id s)) p.frozen_shares s there).0 in (h.have_resources s old, h.have_weights s old)))
        (All-map Both (frozen_row id) pairs (each_there (λ pair. Both (frozen_row id pair)) pairs new))) there

-- each resource has its ven, and each share, frozen or not, its resource and a weight
abbrev Stands : Portfolio → Type 0
Stands p =
    ((r : ℕ × Resource) → Contains p.resources r → HasVen p.vens r) × ((s : ShareKey × ℕ) → Contains p.shares s → HasResource p.resources s) × ((s : ShareKey × ℕ) → Contains p.shares s → HasWeight s) × FrozenStands p

module _ (first : Base) where
  -- the portfolio stands, and its vens, resources and reports have their own since the first, when the serial is that
  abbrev AreWhole : ℕ → Portfolio → Type 0
  AreWhole serial p =
      BothOwn ven_name resource_name first.serial (keys_of first.portfolio.vens) (keys_of first.portfolio.resources) serial p.vens p.resources
      × Stands p × HaveReports first.serial (keys_of first.portfolio.reports) serial p.vens p.resources p.reports

  -- and so have its subscriptions
  abbrev SubsWhole : ℕ → Portfolio → Type 0
  SubsWhole serial p = HaveSubs first.serial (keys_of first.portfolio.subs) serial p

  abbrev pub Whole : Base → Type 0
  Whole base = AreWhole base.serial base.portfolio × SubsWhole base.serial base.portfolio

  -- more numbers were drawn
  later : (serial next : ℕ) (p : Portfolio) → serial ≤ next → AreWhole serial p → AreWhole next p
  later serial next p passed h = (some_both h.0 p.vens p.resources passed h.0.ones.in_order (λ v there. there) h.0.others.in_order (λ r there. there), h.1, later_reports h.2 passed)

  change_whole : (serial : ℕ) (draws : Bool) (p : Portfolio) (change : PortfolioChange) → FitsPortfolio (serial + 1) draws p change → AreWhole serial p → AreWhole (serial_then serial draws) (portfolio_after change p)
  change_whole serial draws p (PutVen n ven) fits h = (
    put_both h.0 draws n ven fits.0 fits.1,
    (λ r there. found_after_put r.1.ven p.vens n ven (h.1.0 r there), h.1.1, h.1.2, frozen_left p (portfolio_after (PutVen n ven) p) h.1.3 (λ s there. there) (λ s there found. found)),
    some_reports h.2 _ p.resources p.reports (rises serial draws) h.2.own.in_order (λ r there. there) (one_put serial draws n ven p.vens fits.0) (is_one serial p.resources) h.2.on_others,
  )
  change_whole serial draws p (DropVen n) fits h =
      let left = from_filter (λ (r : ℕ × Resource). not (r.1.ven == n)) p.resources in
      let kept = from_filter (λ (s : ShareKey × ℕ). not (is_of_ven n p.resources s.0.resource)) p.shares in
      let frozen = from_filter (λ (s : FrozenKey × ℕ). not (is_of_ven n p.resources s.0.resource)) p.frozen_shares in
      let told = from_filter (λ (r : ℕ × Report). not (is_of_ven n p.resources (reported_on r))) p.reports in
      let sorted = h.0.others.in_order in (
        some_both h.0 _ _ (rises serial draws) (in_order_removed nat_cmp (is_at (nat_cmp n)) p.vens h.0.ones.in_order) (from_removal (is_at (nat_cmp n)) p.vens) (in_order_filtered nat_cmp (λ r. not (r.1.ven == n)) p.resources sorted) (λ r there. (left r there).0),
        (
          λ r there. found_after_removal r.1.ven p.vens n h.0.ones.in_order (left r there).1 (h.1.0 r (left r there).0),
          λ s there. still_found n s.0.resource p.resources sorted (h.1.1 s (kept s there).0) (kept s there).1,
          λ s there. h.1.2 s (kept s there).0,
          frozen_left p (portfolio_after (DropVen n) p) h.1.3 (λ s there. (frozen s there).0) (λ s there found. still_found n s.0.resource p.resources sorted found (frozen s there).1),
        ),
        some_reports h.2 _ _ _ (rises serial draws) (in_order_filtered nat_cmp (λ r. not (is_of_ven n p.resources (reported_on r))) p.reports h.2.own.in_order) (λ r there. (told r there).0)
            (λ v there. is_one serial p.vens v (from_removal (is_at (nat_cmp n)) p.vens v there)) (λ r there. is_one serial p.resources r (left r there).0)
            (λ r there. still_found n (reported_on r) p.resources sorted (h.2.on_others r (told r there).0) (told r there).1),
      )
  change_whole serial draws p (PutResource n resource) fits h = (
    turned (put_both (turned h.0) draws n resource fits.0 fits.1),
    (
      λ r there. elim (from_put exact_unsigned n resource p.resources r there) [ inl old ↦ h.1.0 r old | inr new ↦ subst (HasVen p.vens) (sym new) fits.2 ],
      λ s there. found_after_put s.0.resource p.resources n resource (h.1.1 s there),
      h.1.2,
      frozen_left p (portfolio_after (PutResource n resource) p) h.1.3 (λ s there. there) (λ s there found. found_after_put s.0.resource p.resources n resource found),
    ),
    some_reports h.2 p.vens _ p.reports (rises serial draws) h.2.own.in_order (λ r there. there) (is_one serial p.vens) (one_put serial draws n resource p.resources fits.0)
        (λ r there. found_after_put (reported_on r) p.resources n resource (h.2.on_others r there)),
  )
  change_whole serial draws p (DropResource n) fits h =
      let kept = from_filter (λ (s : ShareKey × ℕ). not (s.0.resource == n)) p.shares in
      let frozen = from_filter (λ (s : FrozenKey × ℕ). not (s.0.resource == n)) p.frozen_shares in
      let told = from_filter (λ (r : ℕ × Report). not (reported_on r == n)) p.reports in (
        some_both h.0 _ _ (rises serial draws) h.0.ones.in_order (λ v there. there) (in_order_removed nat_cmp (is_at (nat_cmp n)) p.resources h.0.others.in_order) (from_removal (is_at (nat_cmp n)) p.resources),
        (
          λ r there. h.1.0 r (from_removal (is_at (nat_cmp n)) p.resources r there),
          λ s there. found_after_removal s.0.resource p.resources n h.0.others.in_order (kept s there).1 (h.1.1 s (kept s there).0),
          λ s there. h.1.2 s (kept s there).0,
          frozen_left p (portfolio_after (DropResource n) p) h.1.3 (λ s there. (frozen s there).0) (λ s there found. found_after_removal s.0.resource p.resources n h.0.others.in_order (frozen s there).1 found),
        ),
        some_reports h.2 p.vens _ _ (rises serial draws) (in_order_filtered nat_cmp (λ r. not (reported_on r == n)) p.reports h.2.own.in_order) (λ r there. (told r there).0)
            (is_one serial p.vens) (λ r there. is_one serial p.resources r (from_removal (is_at (nat_cmp n)) p.resources r there))
            (λ r there. found_after_removal (reported_on r) p.resources n h.0.others.in_order (told r there).1 (h.2.on_others r (told r there).0)),
      )
  change_whole serial draws p (PutShare key weight) fits h =
      let same = later serial (serial_then serial draws) p (rises serial draws) h in
      let either = from_put share_exact key weight p.shares in (
        same.0,
        (
          h.1.0,
          λ s there. elim (either s there) [ inl old ↦ h.1.1 s old | inr new ↦ subst (HasResource p.resources) (sym new) fits.0 ],
          λ s there. elim (either s there) [ inl old ↦ h.1.2 s old | inr new ↦ subst HasWeight (sym new) fits.1 ],
          frozen_left p (portfolio_after (PutShare key weight) p) h.1.3 (λ s there. there) (λ s there found. found),
        ),
        same.2,
      )
  change_whole serial draws p (DropShare key) fits h =
      let same = later serial (serial_then serial draws) p (rises serial draws) h in
      let left = from_removal (is_at (share_cmp key)) p.shares in
      (same.0, (h.1.0, λ s there. h.1.1 s (left s there), λ s there. h.1.2 s (left s there), frozen_left p (portfolio_after (DropShare key) p) h.1.3 (λ s there. there) (λ s there found. found)), same.2)
  change_whole serial false p (PutReport n report) fits h = absurd fits
  change_whole serial true p (PutReport n report) fits h =
      let same = later serial (serial + 1) p (rises serial true) h in (
        same.0,
        (h.1.0, h.1.1, h.1.2, frozen_left p (portfolio_after (PutReport n report) p) h.1.3 (λ s there. there) (λ s there found. found)),
        put_reports h.2 h.0.rose n report fits.0 fits.1 (λ v there. (h.0.ones.drawn v there).up_to_the_serial) (λ r there. (h.0.others.drawn r there).up_to_the_serial) fits.2,
      )
  change_whole serial draws p (DropReport n) fits h =
      let same = later serial (serial_then serial draws) p (rises serial draws) h in
      let left = from_removal (is_at (nat_cmp n)) p.reports in (
        same.0,
        (h.1.0, h.1.1, h.1.2, frozen_left p (portfolio_after (DropReport n) p) h.1.3 (λ s there. there) (λ s there found. found)),
        some_reports h.2 p.vens p.resources _ (rises serial draws) (in_order_removed nat_cmp (is_at (nat_cmp n)) p.reports h.2.own.in_order) left (is_one serial p.vens) (is_one serial p.resources) (λ r there. h.2.on_others r (left r there)),
      )
  change_whole serial draws p (PutSub n sub) fits h =
      let same = later serial (serial_then serial draws) p (rises serial draws) h in (same.0, (h.1.0, h.1.1, h.1.2, frozen_left p (portfolio_after (PutSub n sub) p) h.1.3 (λ s there. there) (λ s there found. found)), same.2)
  change_whole serial draws p (DropSub n) fits h =
      let same = later serial (serial_then serial draws) p (rises serial draws) h in (same.0, (h.1.0, h.1.1, h.1.2, frozen_left p (portfolio_after (DropSub n) p) h.1.3 (λ s there. there) (λ s there found. found)), same.2)
  change_whole serial draws p (Freeze id pairs) fits h = by (is_frozen p id) refl
    where
      same : AreWhole (serial_then serial draws) p
      same = later serial (serial_then serial draws) p (rises serial draws) h

      by : (b : Bool) → is_frozen p id ≡ b → AreWhole (serial_then serial draws) (with_frozen id pairs p)
      by true frozen = subst (AreWhole (serial_then serial draws)) (sym (still_frozen p id pairs frozen)) same
      by false fresh = subst (AreWhole (serial_then serial draws)) (sym (now_frozen p id pairs fresh)) (same.0, (h.1.0, h.1.1, h.1.2, frozen_more p id pairs h.1.2 fits h.1.3), same.2)

  -- what is used was drawn by then
  pub used_low : (serial : ℕ) (p : Portfolio) → AreWhole serial p → (n : ℕ) → IsUsed p n → n ≤ serial
  used_low serial p h n (inl v) = let low = (h.0.ones.drawn v.0 v.1).up_to_the_serial in let same = v.2 in omega arith
  used_low serial p h n (inr (inl r)) = let low = (h.0.others.drawn r.0 r.1).up_to_the_serial in let same = r.2 in omega arith
  used_low serial p h n (inr (inr r)) = let low = (h.2.own.drawn r.0 r.1).up_to_the_serial in let same = r.2 in omega arith

  -- both stay, when more numbers were drawn
  all_later : (serial next : ℕ) (p : Portfolio) → serial ≤ next → AreWhole serial p × SubsWhole serial p → AreWhole next p × SubsWhole next p
  all_later serial next p passed h = (later serial next p passed h.0, later_subs h.1 passed)

  pub base_whole : (draws : Bool) (base : Base) (change : BaseChange) → FitsBase (base.serial + 1) draws base change → Whole base → Whole (record (changed change base) { serial = serial_then base.serial draws })
  base_whole draws base (JoinMarks marks scan) fits h = all_later base.serial (serial_then base.serial draws) base.portfolio (rises base.serial draws) h
  base_whole draws base (SetScan scan) fits h = all_later base.serial (serial_then base.serial draws) base.portfolio (rises base.serial draws) h
  base_whole draws base (ChangePortfolio change) fits h = (change_whole base.serial draws base.portfolio change fits h.0, subs_after h.1 h.0.0.rose (used_low base.serial base.portfolio h.0) h.0.0.ones.in_order draws change fits)

  pub step_whole : (settings : Settings) (s : State) (c : ℕ × Command) → Whole s.base → Whole (state_after s (step_at settings s c)).base
  step_whole settings s c h =
      after_step settings s c (λ r. Whole (state_after s r).base) (λ refusal. h) (λ a o is done. h)
      (λ d a is. all_later (serial_then s.base.serial (draws_number c.1)) (next_by settings s c d).1 (changed d.change s.base).portfolio (rises_on settings s c d) (base_whole (draws_number c.1) s.base d.change is.fits.fits h))

  run_whole : (settings : Settings) (s : State) (cs : List (ℕ × Command)) → Whole s.base → Whole (state_of (step_at settings) s cs).base
  run_whole settings = run_keeps (step_at settings) (λ s. Whole s.base) (step_whole settings)

-- the state after a run from an empty start
abbrev pub after : Settings → List (ℕ × Command) → State
after settings cs = state_of (step_at settings) empty cs

-- nothing is there at first
pub none_whole : Whole empty.base empty.base
none_whole = ((none_own, (λ r none. absurd (omega (arith, none.1)), λ s none. absurd (omega (arith, none.1)), λ s none. absurd (omega (arith, none.1)), record { have_resources = λ s none. absurd (omega (arith, none.1)); have_weights = λ s none. absurd (omega (arith, none.1)) }), no_reports), no_subs)

pub whole_after : (settings : Settings) (cs : List (ℕ × Command)) → Whole empty.base (after settings cs).base
whole_after settings cs = run_whole empty.base settings empty cs none_whole

-- no two rows of those of one kind have one name
all_differ : {V X : Type 0} {name : V → X} {first : ℕ} {had : List ℕ} {serial : ℕ} (rows : List (ℕ × V)) → HaveOwn name first had serial rows → NamesDiffer name rows
all_differ {name = name} rows own = each_there (λ a. All (λ b. name a.1 ≡ name b.1 → a.0 ≡ b.0) rows) rows (λ a one. each_there (λ b. name a.1 ≡ name b.1 → a.0 ≡ b.0) rows (λ b other. own.differ a b one other))

pub portfolio_whole : PortfolioIsWhole
portfolio_whole settings cs =
    let base : Base = (after settings cs).base in
    let whole : Whole empty.base base = whole_after settings cs in
    let h = whole.0 in
    record {
      resources_have_vens = each_there (HasVen base.portfolio.vens) base.portfolio.resources h.1.0;
      shares_have_resources = each_there (HasResource base.portfolio.resources) base.portfolio.shares h.1.1;
      shares_have_weights = each_there HasWeight base.portfolio.shares h.1.2;
      frozen_have_resources = each_there (HasFrozenResource base.portfolio.resources) base.portfolio.frozen_shares h.1.3.have_resources;
      frozen_have_weights = each_there HasFrozenWeight base.portfolio.frozen_shares h.1.3.have_weights;
      reports_have_resources = each_there (HasReported base.portfolio.resources) base.portfolio.reports h.2.on_others;
      subs_have_owners = each_there (HasOwner base.portfolio.vens) base.portfolio.subs whole.1.owned;
      ven_names_differ = all_differ base.portfolio.vens h.0.ones;
      resource_names_differ = all_differ base.portfolio.resources h.0.others;
    }

pub rows_in_order : RowsStandInOrder
rows_in_order settings cs =
    let h = (whole_after settings cs).0 in
    record { upstream_keys = mirror_in_order settings cs; resources = h.0.others.in_order; reports = h.2.own.in_order }

pub numbers_own : NumbersAreOwn
numbers_own settings cs =
    let base : Base = (after settings cs).base in
    let both : List ℕ = keys_of base.portfolio.vens ++ keys_of base.portfolio.resources in
    let whole : Whole empty.base base = whole_after settings cs in
    let h = whole.0 in
    let each : (P : ℕ → Type 0) → ((n : ℕ) (had : List ℕ) → IsDrawn 0 had base.serial n → P n) → All P (numbers_of base) =
    λ P from. All-append P (both ++ keys_of base.portfolio.reports) (keys_of base.portfolio.subs)
    (All-append P both (keys_of base.portfolio.reports) (each_drawn h.0 P from) (each_number P base.portfolio.reports (λ r there. from r.0 [] (h.2.own.drawn r there))))
    (each_number P base.portfolio.subs (λ s there. from s.0 [] (whole.1.drawn s there))) in
    record {
      at_least_one = each (λ n. 1 ≤ n) (λ n had drawn. drawn.at_least_one);
      up_to_the_serial = each (λ n. n ≤ base.serial) (λ n had drawn. drawn.up_to_the_serial);
      no_two_are_one = subs_differ whole.1 (reports_differ h.0 h.2);
    }

pub revisions_own : RevisionsAreOwn
revisions_own settings cs =
    let base : Base = (after settings cs).base in
    let h = (whole_after settings cs).0 in
    record {
      from_their_number = each_there (λ r. r.0 ≤ r.1.revision) base.portfolio.reports (λ r there. (h.2.revised r there).0);
      up_to_the_serial = each_there (λ r. r.1.revision ≤ base.serial) base.portfolio.reports (λ r there. (h.2.revised r there).1);
      no_two_are_one = all_differ base.portfolio.reports h.2.own;
    }

pub numbers_drawn_once : NumbersAreDrawnOnce
numbers_drawn_once settings cs more =
    let s : State = after settings cs in
    let t : State = state_of (step_at settings) s more in
    let first : Whole empty.base s.base = whole_after settings cs in
    let h : Whole s.base t.base = run_whole s.base settings s more ((both_from_here first.0.0, first.0.1, reports_from_here first.0.2), subs_from_here first.1) in
    subst (λ (t : State). AreDrawnOnce s.base t.base) (sym (state_of-append (step_at settings) empty cs more)) (record {
      serial_never_falls = h.0.0.rose;
      vens_were_there = each_number (λ n. n ≤ s.base.serial → Contains (keys_of s.base.portfolio.vens) n) t.base.portfolio.vens (λ r there. (h.0.0.ones.drawn r there).was_there);
      resources_were_there = each_number (λ n. n ≤ s.base.serial → Contains (keys_of s.base.portfolio.resources) n) t.base.portfolio.resources (λ r there. (h.0.0.others.drawn r there).was_there);
      reports_were_there = each_number (λ n. n ≤ s.base.serial → Contains (keys_of s.base.portfolio.reports) n) t.base.portfolio.reports (λ r there. (h.0.2.own.drawn r there).was_there);
      subs_were_there = each_number (λ n. n ≤ s.base.serial → Contains (keys_of s.base.portfolio.subs) n) t.base.portfolio.subs (λ r there. (h.1.drawn r there).was_there);
    })
