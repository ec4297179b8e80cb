-- How many go with a ven, a resource, a share, a report and a subscription.
use Rattle.std.proofs.Common.{◌≡◌, ◌+◌, ℕ, suc, Bool, true, false, cond, List, length, map, filter, not, refl, sym, ap, ◌∙◌, arith, Ordering}
use Rattle.std.specs.Prelude.{◌==◌, is_some}
use Rattle.std.specs.Map.{remove_entry}
use Rattle.std.specs.List.{sum_by}
use Rattle.std.proofs.lemmas.List.Filters.{length-filter_both}
use Rattle.adr_sql.proofs.Common.{length-map}
use Rattle.adr_db.proofs.Common.{is_at, at, nat_cmp, share_cmp, is_of_ven, is_sub_of, Resource, Report, Sub, ShareKey, without_resource, without_ven}
use Rattle.adr_state.specs.declared.portfolio.Portfolio.{Portfolio}
use Rattle.adr_state.specs.declared.keys.FrozenKey.{FrozenKey}
use Rattle.adr_state.specs.Portfolios.{reported_on, without_share, without_report, without_sub}
use Rattle.adr_db.proofs.Entries.{NumbersRise, length_left, length_stays}
use Rattle.adr_counted.specs.declared.along.Along.{Along}
use Rattle.adr_counted.specs.Gone.{none_gone, IsGone}
use Rattle.adr_counted.specs.Along.{shares_of, reports_on, frozen_of, along_each}
use Rattle.adr_counted.proofs.Sums.{sum_of_ven}

stays : (n : ℕ) → n + 0 ≡ n
stays n = omega arith

one_goes : (n m : ℕ) → suc n ≡ m → n + 1 ≡ m
one_goes n m is = omega (arith, is)

-- those that do not pass are left
pub others_left : {X : Type 0} (p : X → Bool) (xs : List X) (n : ℕ) → n ≡ length (filter p xs) → length (filter (λ x. not (p x)) xs) + n ≡ length xs
others_left p xs n is = let both = length-filter_both p (λ x. not (p x)) (λ x. refl) xs in omega (arith, is, both)

-- one that is there goes
one_left : {K V : Type 0} (R : K → K → Ordering) (k : K) (es : List (K × V)) → is_some (at R k es) ≡ true → length (remove_entry (is_at (R k)) es) + 1 ≡ length es
one_left R k es there = one_goes _ _ (length_left R k es there)

some_left : {K V : Type 0} (R : K → K → Ordering) (k : K) (es : List (K × V)) (is_there : Bool) → is_some (at R k es) ≡ is_there → length (remove_entry (is_at (R k)) es) + cond is_there 1 0 ≡ length es
some_left R k es true so = one_left R k es so
some_left R k es false so = stays _ ∙ length_stays R k es so

module _ (p : Portfolio) where
  pub share_goes : (key : ShareKey) (is_there : Bool) → is_there ≡ is_some (at share_cmp key p.shares) → IsGone (record none_gone { shares = cond is_there 1 0 }) p (without_share key p)
  share_goes key is_there so = record { vens = stays _; resources = stays _; shares = some_left share_cmp key p.shares is_there (sym so); reports = stays _; subs = stays _; frozen = stays _ }

  pub report_goes : (n : ℕ) → is_some (at nat_cmp n p.reports) ≡ true → IsGone (record none_gone { reports = 1 }) p (without_report n p)
  report_goes n there = record { vens = stays _; resources = stays _; shares = stays _; reports = one_left nat_cmp n p.reports there; subs = stays _; frozen = stays _ }

  pub sub_goes : (n : ℕ) → is_some (at nat_cmp n p.subs) ≡ true → IsGone (record none_gone { subs = 1 }) p (without_sub n p)
  sub_goes n there = record { vens = stays _; resources = stays _; shares = stays _; reports = stays _; subs = one_left nat_cmp n p.subs there; frozen = stays _ }

  -- a resource goes with its shares and reports
  pub resource_goes : (n : ℕ) (along : Along) → along ≡ record { shares = shares_of p n; reports = reports_on p n; frozen = frozen_of p n } → is_some (at nat_cmp n p.resources) ≡ true
      → IsGone (record { vens = 0; resources = 1; shares = along.shares; reports = along.reports; subs = 0; frozen = along.frozen }) p (without_resource n p)
  resource_goes n along is there = record {
    vens = stays _;
    resources = one_left nat_cmp n p.resources there;
    shares = others_left (λ (s : ShareKey × ℕ). s.0.resource == n) p.shares along.shares (ap (λ (a : Along). a.shares) is);
    reports = others_left (λ (r : ℕ × Report). reported_on r == n) p.reports along.reports (ap (λ (a : Along). a.reports) is);
    subs = stays _;
    frozen = others_left (λ (s : FrozenKey × ℕ). s.0.resource == n) p.frozen_shares along.frozen (ap (λ (a : Along). a.frozen) is);
  }

  -- a ven goes with its resources, their shares and reports, and its subscriptions
  pub ven_goes : (n : ℕ) (along : Along) (resources subs : List ℕ) → NumbersRise p.resources → resources ≡ map (λ r. r.0) (filter (λ r. r.1.ven == n) p.resources) → along ≡ along_each p resources
      → subs ≡ map (λ s. s.0) (filter (λ s. is_sub_of n s.1) p.subs) → is_some (at nat_cmp n p.vens) ≡ true
      → IsGone (record { vens = 1; resources = length resources; shares = along.shares; reports = along.reports; subs = length subs; frozen = along.frozen }) p (without_ven n p)
  ven_goes n along resources subs up are is of_it there = record {
    vens = one_left nat_cmp n p.vens there;
    resources = others_left (λ (r : ℕ × Resource). r.1.ven == n) p.resources (length resources) (ap length are ∙ length-map (filter (λ r. r.1.ven == n) p.resources) (λ r. r.0));
    shares = others_left (λ (s : ShareKey × ℕ). is_of_ven n p.resources s.0.resource) p.shares along.shares (ap (λ (a : Along). a.shares) is ∙ ap (sum_by (shares_of p)) are ∙ sum_of_ven (λ (s : ShareKey × ℕ). s.0.resource) n p.shares p.resources up);
    reports = others_left (λ (r : ℕ × Report). is_of_ven n p.resources (reported_on r)) p.reports along.reports (ap (λ (a : Along). a.reports) is ∙ ap (sum_by (reports_on p)) are ∙ sum_of_ven reported_on n p.reports p.resources up);
    subs = others_left (λ (s : ℕ × Sub). is_sub_of n s.1) p.subs (length subs) (ap length of_it ∙ length-map (filter (λ s. is_sub_of n s.1) p.subs) (λ s. s.0));
    frozen = others_left (λ (s : FrozenKey × ℕ). is_of_ven n p.resources s.0.resource) p.frozen_shares along.frozen (ap (λ (a : Along). a.frozen) is ∙ ap (sum_by (frozen_of p)) are ∙ sum_of_ven (λ (s : FrozenKey × ℕ). s.0.resource) n p.frozen_shares p.resources up);
  }
