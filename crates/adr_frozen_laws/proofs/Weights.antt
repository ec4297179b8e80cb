-- What a change of the portfolio leaves of the weights that are kept for an event that is frozen.
use Rattle.std.proofs.Common.{◌≡◌, ℕ, Bool, true, false, cond, not, ◌==◌, List, map, filter, Option, Some, None, refl, sym, ap, subst, ◌∙◌}
use Rattle.std.specs.Prelude.{IsSome, bytes_eq, is_some}
use Rattle.std.specs.Map.{keys_of, remove_entry}
use Rattle.std.specs.Option.{option_map_or}
use Rattle.std.specs.Ordering.{is_eq, nat_cmp}
use Rattle.std.proofs.lemmas.Bool.{cond_both, false_from_ne_true, true≢false}
use Rattle.std.proofs.lemmas.Cmp.{nat_list_cmp_total}
use Rattle.std.proofs.lemmas.Map.{lookup-remove_entry}
use Rattle.std.proofs.lemmas.Map.Entries.{lookup-filter-keys, lookup-filter-values, option_filter}
use Rattle.std.proofs.lemmas.Slice.Eq.{bytes_eq-Decides}
use Rattle.adr_state.specs.declared.keys.FrozenKey.{FrozenKey}
use Rattle.adr_state.specs.declared.portfolio.Portfolio.{Portfolio}
use Rattle.adr_state.specs.declared.portfolio.Resource.{Resource}
use Rattle.adr_state.specs.Frozen.{is_frozen, frozen_key, frozen_weight, is_of_event, frozen_row, with_frozen}
use Rattle.adr_state.specs.Keys.{frozen_cmp, id_cmp}
use Rattle.adr_state.specs.Portfolios.{PortfolioChange, PutVen, DropVen, PutResource, DropResource, PutShare, DropShare, PutReport, DropReport, PutSub, DropSub, Freeze, is_of_ven, portfolio_after}
use Rattle.adr_state.proofs.LawLemmas.{at-insert_entry, equal_from_is}
use Rattle.adr_view.proofs.FrozenLemmas.{frozen_total, frozen_now, now_frozen, still_frozen}
use Rattle.adr_view.proofs.KeyLemmas.{frozen_exact}
use Rattle.adr_view.proofs.Common.{exact_bytes}
use Rattle.adr_view.proofs.MapLemmas.{at-with_others, tied}
use Rattle.adr_view.proofs.OrderLemmas.{InOrder}
use Rattle.adr_view.proofs.RowLemmas.{each_there, found_after_put, found_after_removal}
use Rattle.adr_laws.proofs.Common.{All-map, Contains, Contains-from_lookup, IsDistinct-from_sorted, at, eq_by_cmp_equiv, is_at, nat_cmp_total, tells_apart, unsigned_Decides}
use Rattle.adr_laws.proofs.PortfolioLemmas.{FrozenStands}
use Rattle.adr_frozen_laws.specs.FrozenRuns.{is_there, StaysFrozen}

some_is : {A : Type 0} (o : Option A) → IsSome o → is_some o ≡ true
some_is (Some x) found = refl
some_is None found = found

module _ (p : Portfolio) (stands : FrozenStands p) (id : List ℕ) where
  -- a weight is kept for a resource that is there
  pub kept_there : (n w : ℕ) → frozen_weight p id n ≡ Some w → IsSome (at nat_cmp n p.resources)
  kept_there n w is = stands.have_resources (frozen_key id n, w) (Contains-from_lookup (tells_apart frozen_exact) (frozen_key id n) w p.frozen_shares is)

  -- so it stays, where the resources stay that are there
  pub stays_kept : (q : Portfolio) → ((n : ℕ) → IsSome (at nat_cmp n p.resources) → IsSome (at nat_cmp n q.resources)) → (n : ℕ) → frozen_weight p id n ≡ cond (is_there q n) (frozen_weight p id n) None
  stays_kept q stay n = by (frozen_weight p id n) refl
    where
      by : (o : Option ℕ) → frozen_weight p id n ≡ o → o ≡ cond (is_there q n) o None
      by None is = cond_both (is_there q n) None None (λ (o : Option ℕ). None ≡ o) (λ there. refl) (λ gone. refl)
      by (Some w) is = ap (λ (b : Bool). cond b (Some w) None) (sym (some_is (at nat_cmp n q.resources) (stay n (kept_there n w is))))

  -- the weights that go with resources that go, and those that stay
  module _ (goes : ℕ → Bool) (left : List (FrozenKey × ℕ)) (are : left ≡ filter (λ s. not (goes s.0.resource)) p.frozen_shares) where
    weight_left : (n : ℕ) (b : Bool) → goes n ≡ b → at frozen_cmp (frozen_key id n) left ≡ cond (not b) (frozen_weight p id n) None
    weight_left n b is =
        ap (at frozen_cmp (frozen_key id n)) are
        ∙ lookup-filter-keys (is_at (frozen_cmp (frozen_key id n))) (λ k. not (goes k.resource)) (not b) (λ k same. let one : n ≡ k.resource = ap (λ (j : FrozenKey). j.resource) (frozen_exact (frozen_key id n) k (equal_from_is _ same)) in ap not (ap goes (sym one) ∙ is)) p.frozen_shares

    -- where those resources go, and no others
    drops_kept : (q : Portfolio) → q.frozen_shares ≡ left → ((n : ℕ) → goes n ≡ true → at nat_cmp n q.resources ≡ None) → ((n : ℕ) → goes n ≡ false → IsSome (at nat_cmp n p.resources) → IsSome (at nat_cmp n q.resources))
        → (n : ℕ) → frozen_weight q id n ≡ cond (is_there q n) (frozen_weight p id n) None
    drops_kept q same gone stay n = ap (at frozen_cmp (frozen_key id n)) same ∙ by (goes n) refl
      where
        by : (b : Bool) → goes n ≡ b → at frozen_cmp (frozen_key id n) left ≡ cond (is_there q n) (frozen_weight p id n) None
        by true is = weight_left n true is ∙ sym (ap (λ (o : Option Resource). cond (is_some o) (frozen_weight p id n) None) (gone n is))
        by false is = weight_left n false is ∙ kept (frozen_weight p id n) refl
          where
            kept : (o : Option ℕ) → frozen_weight p id n ≡ o → o ≡ cond (is_there q n) o None
            kept None is_none = cond_both (is_there q n) None None (λ (o : Option ℕ). None ≡ o) (λ there. refl) (λ not_there. refl)
            kept (Some w) is_some_w = ap (λ (b : Bool). cond b (Some w) None) (sym (some_is (at nat_cmp n q.resources) (stay n is (kept_there n w is_some_w))))

-- ---- another event that is frozen now

module _ (p : Portfolio) (id : List ℕ) (pairs : List (ℕ × ℕ)) (other : List ℕ) (differ : other ≡ id → ⊥) where
  frozen_before : is_frozen (frozen_now p id pairs) other ≡ is_frozen p other
  frozen_before =
      ap is_some (at-insert_entry nat_list_cmp_total other id tt p.frozen)
      ∙ ap (λ (b : Bool). is_some (cond b (Some tt) (at id_cmp other p.frozen))) (false_from_ne_true (is_eq (id_cmp other id)) (λ is. differ (exact_bytes other id (equal_from_is _ is))))

  others_kept : (n : ℕ) → frozen_weight (frozen_now p id pairs) other n ≡ frozen_weight p other n
  others_kept n =
      at-with_others frozen_total (frozen_key other n) (filter (λ s. not (is_of_event id s)) p.frozen_shares) (map (frozen_row id) pairs)
      (All-map (λ r. is_eq (frozen_cmp (frozen_key other n) r.0) ≡ false) (frozen_row id) pairs
      (each_there (λ pair. is_eq (frozen_cmp (frozen_key other n) (frozen_key id pair.0)) ≡ false) pairs
      (λ pair there. false_from_ne_true (is_eq (frozen_cmp (frozen_key other n) (frozen_key id pair.0))) (λ is. differ (ap (λ (k : FrozenKey). k.event) (frozen_exact (frozen_key other n) (frozen_key id pair.0) (equal_from_is _ is)))))))
      ∙ lookup-filter-keys (is_at (frozen_cmp (frozen_key other n))) (λ k. not (bytes_eq k.event id)) true (λ k is.
      let same : other ≡ k.event = ap (λ (j : FrozenKey). j.event) (frozen_exact (frozen_key other n) k (equal_from_is _ is)) in
      ap not (false_from_ne_true (bytes_eq k.event id) (λ yes. differ (same ∙ (bytes_eq-Decides k.event id).0 yes)))) p.frozen_shares

-- ---- any change

-- a number that is removed is of nothing
none_after_removal : {V : Type 0} (n : ℕ) (es : List (ℕ × V)) → InOrder nat_cmp es → at nat_cmp n (remove_entry (is_at (nat_cmp n)) es) ≡ None
none_after_removal n es up =
    let laws = eq_by_cmp_equiv nat_cmp_total in
    lookup-remove_entry laws (is_at (nat_cmp n)) (λ x y. laws.congr n x y) n es (IsDistinct-from_sorted nat_cmp (keys_of es) up) ∙ ap (λ (b : Bool). cond b None (at nat_cmp n es)) (tied nat_cmp_total n)

-- a resource of another ven stays
of_another : (n : ℕ) (o : Option Resource) → IsSome o → option_map_or (λ r. r.ven == n) o false ≡ false → IsSome (option_filter (λ r. not (r.ven == n)) o)
of_another n None found other = found
of_another n (Some r) found other = rw other refl

of_another_stays : (n m : ℕ) (resources : List (ℕ × Resource)) → InOrder nat_cmp resources → is_of_ven n resources m ≡ false → IsSome (at nat_cmp m resources) → IsSome (at nat_cmp m (filter (λ r. not (r.1.ven == n)) resources))
of_another_stays n m resources up other found =
    subst IsSome (sym (lookup-filter-values (eq_by_cmp_equiv nat_cmp_total) (λ r. not (r.ven == n)) m resources (IsDistinct-from_sorted nat_cmp (keys_of resources) up))) (of_another n (at nat_cmp m resources) found other)

-- and one of the ven that goes goes with it
none_of_ven : (n m : ℕ) (resources : List (ℕ × Resource)) → InOrder nat_cmp resources → is_of_ven n resources m ≡ true → at nat_cmp m (filter (λ r. not (r.1.ven == n)) resources) ≡ None
none_of_ven n m resources up is =
    lookup-filter-values (eq_by_cmp_equiv nat_cmp_total) (λ r. not (r.ven == n)) m resources (IsDistinct-from_sorted nat_cmp (keys_of resources) up) ∙ by (at nat_cmp m resources) is
  where
    by : (o : Option Resource) → option_map_or (λ r. r.ven == n) o false ≡ true → option_filter (λ r. not (r.ven == n)) o ≡ None
    by None kept = absurd (let x : false ≡ true = kept in cc)
    by (Some r) of_it = ap (λ (b : Bool). cond (not b) (Some r) None) of_it

module _ (p : Portfolio) (stands : FrozenStands p) (up : InOrder nat_cmp p.resources) (id : List ℕ) (frozen : is_frozen p id ≡ true) where
  abbrev After : PortfolioChange → Type 0
  After change = StaysFrozen p (portfolio_after change p) id

  same_frozen : (q : Portfolio) → q.frozen ≡ p.frozen → is_frozen q id ≡ true
  same_frozen q is = ap (λ (events : List (List ℕ × Unit {0})). is_some (at id_cmp id events)) is ∙ frozen

  -- what leaves the frozen shares, and the resources that are there
  stays : (q : Portfolio) → q.frozen ≡ p.frozen → q.frozen_shares ≡ p.frozen_shares → ((n : ℕ) → IsSome (at nat_cmp n p.resources) → IsSome (at nat_cmp n q.resources)) → StaysFrozen p q id
  stays q events shares stay = record { frozen = same_frozen q events; weights = λ n. ap (at frozen_cmp (frozen_key id n)) shares ∙ stays_kept p stands id q stay n }

  pub stays_same : StaysFrozen p p id
  stays_same = stays p refl refl (λ m there. there)

  pub change_stays : (change : PortfolioChange) → After change
  change_stays (PutVen n ven) = stays (portfolio_after (PutVen n ven) p) refl refl (λ m there. there)
  change_stays (DropVen n) = record {
    frozen = same_frozen (portfolio_after (DropVen n) p) refl;
    weights = drops_kept p stands id (is_of_ven n p.resources) (portfolio_after (DropVen n) p).frozen_shares refl (portfolio_after (DropVen n) p) refl (λ m is. none_of_ven n m p.resources up is) (λ m is there. of_another_stays n m p.resources up is there);
  }
  change_stays (PutResource n resource) = stays (portfolio_after (PutResource n resource) p) refl refl (λ m there. found_after_put m p.resources n resource there)
  change_stays (DropResource n) = record {
    frozen = same_frozen (portfolio_after (DropResource n) p) refl;
    weights = drops_kept p stands id (λ m. m == n) (portfolio_after (DropResource n) p).frozen_shares refl (portfolio_after (DropResource n) p) refl
        (λ m is. ap (λ (k : ℕ). at nat_cmp k (remove_entry (is_at (nat_cmp n)) p.resources)) ((unsigned_Decides m n).0 is) ∙ none_after_removal n p.resources up) (λ m is there. found_after_removal m p.resources n up (ap not is) there);
  }
  change_stays (PutShare key weight) = stays (portfolio_after (PutShare key weight) p) refl refl (λ m there. there)
  change_stays (DropShare key) = stays (portfolio_after (DropShare key) p) refl refl (λ m there. there)
  change_stays (PutReport n report) = stays (portfolio_after (PutReport n report) p) refl refl (λ m there. there)
  change_stays (DropReport n) = stays (portfolio_after (DropReport n) p) refl refl (λ m there. there)
  change_stays (PutSub n sub) = stays (portfolio_after (PutSub n sub) p) refl refl (λ m there. there)
  change_stays (DropSub n) = stays (portfolio_after (DropSub n) p) refl refl (λ m there. there)
  change_stays (Freeze event pairs) = by (is_frozen p event) refl
    where
      by : (b : Bool) → is_frozen p event ≡ b → StaysFrozen p (with_frozen event pairs p) id
      by true is = subst (λ (q : Portfolio). StaysFrozen p q id) (sym (still_frozen p event pairs is)) stays_same
      by false fresh =
          let differ : id ≡ event → ⊥ = λ same. true≢false (sym frozen ∙ ap (is_frozen p) same ∙ fresh) in
          subst (λ (q : Portfolio). StaysFrozen p q id) (sym (now_frozen p event pairs fresh)) (record {
            frozen = frozen_before p event pairs id differ ∙ frozen;
            weights = λ n. others_kept p event pairs id differ n ∙ stays_kept p stands id (frozen_now p event pairs) (λ m there. there) n;
          })
