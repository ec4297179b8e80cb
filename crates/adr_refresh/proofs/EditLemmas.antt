-- What an edit of the portfolio leaves of what is shown, kind by kind.
use Rattle.std.proofs.Common.{◌≡◌, ℕ, Bool, true, false, cond, not, ◌&&◌, ⊎_elim, List, [], ◌∷◌, ◌++◌, map, filter, Option, Some, None, refl, sym, ap, ap₂, subst, ◌∙◌, eqb-true}
use Rattle.std.specs.Prelude.{◌==◌, bytes_eq, is_some, IfSome}
use Rattle.adr_objects.specs.declared.body.EventBody.{EventBody}
use Rattle.adr_state.specs.declared.keys.FrozenKey.{FrozenKey}
use Rattle.adr_state.specs.declared.base.Mark.{Mark}
use Rattle.adr_state.specs.declared.keys.ShareKey.{ShareKey}
use Rattle.adr_state.specs.declared.participants.Participant.{Participant}
use Rattle.adr_state.specs.declared.portfolio.Portfolio.{Portfolio}
use Rattle.adr_state.specs.declared.portfolio.Report.{Report}
use Rattle.adr_state.specs.declared.portfolio.Resource.{Resource}
use Rattle.adr_state.specs.declared.portfolio.Ven.{Ven}
use Rattle.adr_state.specs.BaseChanges.{ChangePortfolio, changed}
use Rattle.adr_state.specs.Frozen.{is_frozen, frozen_key, frozen_weight, with_frozen}
use Rattle.adr_state.specs.Keys.{frozen_cmp}
use Rattle.adr_state.specs.Participants.{is_for, weight_in, participant_of, participants}
use Rattle.adr_state.specs.Portfolios.{PortfolioChange, PutVen, DropVen, PutResource, DropResource, PutShare, DropShare, PutReport, DropReport, PutSub, DropSub, Freeze, is_of_ven, reported_on, portfolio_after, with_ven, with_resource, with_report, without_ven, without_resource, without_report}
use Rattle.adr_view.specs.Rollups.{event_key, event_body, reporter_of, reporters, reports_of, reports_on}
use Rattle.adr_view.proofs.FrozenLemmas.{frozen_total, participant_by, reports_as_before}
use Rattle.adr_view.proofs.KeyLemmas.{frozen_exact}
use Rattle.adr_view.proofs.ListLemmas.{in_filter}
use Rattle.adr_refresh.specs.Sources.{Source, rows_of}
use Rattle.adr_refresh.specs.Touched.{live_in, events_in, shares_in, one_shares, events_frozen_in, has_resource, events_of_resource, events_of_ven, events_by_share, events_by_freezing, event_reported, report_by, reports_by, events_touched, reports_touched, touched_by}
use Rattle.adr_refresh.proofs.Common.{All, All-weaker, Base, Contains, Contains-append_left, Contains-append_right, Contains-from_lookup, all_filter_map, at, at-insert_entry, bytes_eq-Decides, cases_Bool, each_there, equal_from_is, exact_unsigned, filter_map, in_filter_map, in_map, insert_entry, is_at, is_eq, mirror_cmp, mirror_exact, nat_cmp, nat_cmp_total, nat_eq_equiv, option_map_or, remove_entry, share_cmp, share_exact, tells_apart, true≢false, unsigned_tied}
use Rattle.adr_refresh.proofs.ListLemmas.{MakesOfPassing, behind_first, false_unless, is_none_from, one_passes, filter_is, filter_map_passing, filter_map_put, filter_map_removed, filter_map_same, lookup-passing, lookup-removed_other, map_same, none_passes, the_first}
use Rattle.adr_refresh.proofs.MapLemmas.{at-rows_at}
use Rattle.adr_refresh.proofs.FreezeLemmas.{freeze_stays}
use Rattle.adr_refresh.proofs.ShareLemmas.{kept_by_put, kept_by_removal, no_weight, share_in, share_total, shares_stay, weight_by, weight_stays}
use Rattle.adr_refresh.proofs.StayLemmas.{StaysOf, Stays, shared_stay, sources_stay}

-- ---- numbers

not_tied : (q n : ℕ) → (q ≡ n → ⊥) → is_eq (nat_cmp q n) ≡ false
not_tied q n differ = false_unless (is_eq (nat_cmp q n)) (λ is. differ (exact_unsigned q n (equal_from_is _ is)))

not_equal : (q n : ℕ) → (q == n) ≡ false → is_eq (nat_cmp q n) ≡ false
not_equal q n differ = unsigned_tied q n ∙ differ

-- ---- events that are not touched

in_events : (passes : List ℕ → Bool) (base : Base) (id : List ℕ) (event : EventBody) (known : Option Mark) → at mirror_cmp (event_key id) base.mirror ≡ known → event_body known ≡ Some event → passes event.program ≡ true → Contains (events_in passes base) id
in_events passes base id event None found is passed = absurd cc
in_events passes base id event (Some mark) found is passed =
    in_filter_map (live_in passes) base.mirror (event_key id, mark) id (rw (is, passed) refl) (Contains-from_lookup (tells_apart mirror_exact) (event_key id) mark base.mirror found)

fails : (passes : List ℕ → Bool) (base : Base) (id : List ℕ) (event : EventBody) → (Contains (events_in passes base) id → ⊥) → event_body (at mirror_cmp (event_key id) base.mirror) ≡ Some event → passes event.program ≡ false
fails passes base id event free is = false_unless (passes event.program) (λ passed. free (in_events passes base id event (at mirror_cmp (event_key id) base.mirror) refl is passed))

-- ---- who takes part

no_share : (p : Portfolio) (n : ℕ) (program : List ℕ) → shares_in p n program ≡ false → at share_cmp (record { program = program; resource = n }) p.shares ≡ None
no_share p n program none = is_none_from (at share_cmp (record { program = program; resource = n }) p.shares) none

-- where no event of a resource is this one, nothing is kept for the resource in it
not_kept : (p : Portfolio) (passes : ℕ → Bool) (id : List ℕ) → (Contains (events_frozen_in passes p) id → ⊥) → (n : ℕ) → passes n ≡ true → frozen_weight p id n ≡ None
not_kept p passes id free n passed = by (frozen_weight p id n) refl
  where
    by : (o : Option ℕ) → frozen_weight p id n ≡ o → o ≡ None
    by None found = refl
    by (Some w) found =
        let there : Contains p.frozen_shares (frozen_key id n, w) = Contains-from_lookup (tells_apart frozen_exact) (frozen_key id n) w p.frozen_shares found in
        absurd (free (in_map (λ s. s.0.event) (filter (λ s. passes s.0.resource) p.frozen_shares) (frozen_key id n, w) (in_filter (λ s. passes s.0.resource) p.frozen_shares (frozen_key id n, w) passed there)))

takes_no_part : (p : Portfolio) (id : List ℕ) (event : EventBody) (n : ℕ) → frozen_weight p id n ≡ None → shares_in p n event.program ≡ false → (r : Resource) → participant_of p id event (n, r) ≡ None
takes_no_part p id event n kept none r =
    ap (λ (weight : Option ℕ). participant_by (n, r) weight (at nat_cmp r.ven p.vens))
    (ap₂ (weight_by (is_frozen p id) (is_for event.resource_names r.name)) kept (no_share p n event.program none) ∙ no_weight (is_frozen p id) (is_for event.resource_names r.name))

-- whoever takes part has a share, or a weight that is kept
part_by_weight : (p : Portfolio) (id : List ℕ) (event : EventBody) (P : ℕ → Type 0) → ((n : ℕ) → is_some (frozen_weight p id n) ≡ true → P n) → ((n : ℕ) → shares_in p n event.program ≡ true → P n) → All (λ (x : Participant). P x.resource) (participants p id event)
part_by_weight p id event P kept shared = all_filter_map (participant_of p id event) (λ r. Unit {0}) (λ (x : Participant). P x.resource) (λ r u. one r (is_frozen p id) (is_for event.resource_names r.1.name) (frozen_weight p id r.0) (share_in p event r.0) (at nat_cmp r.1.ven p.vens) (kept r.0) (shared r.0)) p.resources (each_there (λ r. Unit {0}) p.resources (λ r there. tt))
  where
    some : (r : ℕ × Resource) (weight : Option ℕ) (ven : Option Ven) → (is_some weight ≡ true → P r.0) → IfSome (participant_by r weight ven) (λ (x : Participant). P x.resource)
    some r None ven h = tt
    some r (Some w) None h = tt
    some r (Some w) (Some v) h = h refl

    one : (r : ℕ × Resource) (frozen for : Bool) (weight share : Option ℕ) (ven : Option Ven) → (is_some weight ≡ true → P r.0) → (is_some share ≡ true → P r.0) → IfSome (participant_by r (weight_by frozen for weight share) ven) (λ (x : Participant). P x.resource)
    one r true for weight share ven h g = some r weight ven h
    one r false true weight share ven h g = some r share ven g
    one r false false weight share ven h g = tt

-- ---- reports of resources that stay

module _ (id : List ℕ) (goes : ℕ → Bool) where
  abbrev stays_on : ℕ × Report → Bool
  stays_on r = not (goes (reported_on r))

  on_alike : (m : ℕ) → goes m ≡ false → (reports : List (ℕ × Report)) → reports_on m (reports_of id reports) ≡ reports_on m (reports_of id (filter stays_on reports))
  on_alike m stays [] = refl
  on_alike m stays (r ∷ reports) = by (goes (reported_on r)) refl (on_alike m stays reports)
    where
      abbrev_on : Bool → List Report → List Report
      abbrev_on b rest = cond b (r.1 ∷ rest) rest

      both : (b c : Bool) (xs ys : List (ℕ × Report)) → reports_on m (map (λ r. r.1) xs) ≡ reports_on m (map (λ r. r.1) ys) → (reported_on r == m) ≡ c → reports_on m (map (λ r. r.1) (cond b (r ∷ xs) xs)) ≡ reports_on m (map (λ r. r.1) (cond b (r ∷ ys) ys))
      both true c xs ys same is = ap (abbrev_on (reported_on r == m)) same
      both false c xs ys same is = same

      drops : (b : Bool) (xs : List (ℕ × Report)) → (reported_on r == m) ≡ false → reports_on m (map (λ r. r.1) (cond b (r ∷ xs) xs)) ≡ reports_on m (map (λ r. r.1) xs)
      drops true xs is = rw is refl
      drops false xs is = refl

      by : (b : Bool) → goes (reported_on r) ≡ b → reports_on m (reports_of id reports) ≡ reports_on m (reports_of id (filter stays_on reports))
          → reports_on m (reports_of id (r ∷ reports)) ≡ reports_on m (reports_of id (cond (not b) (r ∷ filter stays_on reports) (filter stays_on reports)))
      by false is rest = both (bytes_eq r.1.body.head.event id) (reported_on r == m) (filter (λ r. bytes_eq r.1.body.head.event id) reports) (filter (λ r. bytes_eq r.1.body.head.event id) (filter stays_on reports)) rest refl
      by true is rest = drops (bytes_eq r.1.body.head.event id) (filter (λ r. bytes_eq r.1.body.head.event id) reports) (false_unless (reported_on r == m) (λ same. true≢false (sym is ∙ ap goes (eqb-true (reported_on r) m same) ∙ stays))) ∙ rest

  reporters_alike : (reports : List (ℕ × Report)) (ps : List Participant) → All (λ (p : Participant). goes p.resource ≡ false) ps → reporters (reports_of id reports) ps ≡ reporters (reports_of id (filter stays_on reports)) ps
  reporters_alike reports ps stay = map_same (reporter_of (reports_of id reports)) (reporter_of (reports_of id (filter stays_on reports))) ps
      (All-weaker (λ (p : Participant). goes p.resource ≡ false) (λ p. reporter_of (reports_of id reports) p ≡ reporter_of (reports_of id (filter stays_on reports)) p) (λ p stays. λ i. record { name = p.name; reports = on_alike p.resource stays reports i }) ps stay)

report_passes : (goes : ℕ → Bool) (p : Portfolio) (m : ℕ) → (Contains (reports_by goes p) m → ⊥) → at nat_cmp m p.reports ≡ at nat_cmp m (filter (λ r. not (goes (reported_on r))) p.reports)
report_passes goes p m free = sym (lookup-passing (is_at (nat_cmp m)) (λ r. not (goes (reported_on r))) p.reports (each_there (λ r. is_at (nat_cmp m) r.0 ≡ true → not (goes (reported_on r)) ≡ true) p.reports one))
  where
    one : (r : ℕ × Report) → Contains p.reports r → is_at (nat_cmp m) r.0 ≡ true → not (goes (reported_on r)) ≡ true
    one r there is = by (goes (reported_on r)) refl
      where
        by : (b : Bool) → goes (reported_on r) ≡ b → not b ≡ true
        by false gone = refl
        by true gone = absurd (free (subst (λ (n : ℕ). Contains (reports_by goes p) n) (sym (exact_unsigned m r.0 (equal_from_is _ is))) (in_filter_map (report_by goes) p.reports r r.0 (rw gone refl) there)))

-- ---- the kinds of edit

module _ (base : Base) where
  abbrev p : Portfolio
  p = base.portfolio

  -- neither among the live events of programs that pass, nor among those in which a resource that passes is frozen
  record FreeOf (passes : List ℕ → Bool) (frozen : ℕ → Bool) (id : List ℕ) : Type 0 where
    unshared : Contains (events_in passes base) id → ⊥
    unfrozen : (n : ℕ) → frozen n ≡ true → frozen_weight p id n ≡ None

  free_of : (passes : List ℕ → Bool) (frozen : ℕ → Bool) (id : List ℕ) → (Contains (events_in passes base ++ events_frozen_in frozen p) id → ⊥) → FreeOf passes frozen id
  free_of passes frozen id free = record {
    unshared = λ there. free (Contains-append_left (events_in passes base) (events_frozen_in frozen p) id there);
    unfrozen = not_kept p frozen id (λ there. free (Contains-append_right (events_in passes base) (events_frozen_in frozen p) id there));
  }

  same_part : (q : Portfolio) (id : List ℕ) (event : EventBody) → participants p id event ≡ participants q id event → p.reports ≡ q.reports → StaysOf p q id event
  same_part q id event part reports = record { part = part; reports = ap (λ (rs : List (ℕ × Report)). reporters (reports_of id rs) (participants p id event)) reports }

  -- a share

  share_stays : (key : ShareKey) (shares : List (ShareKey × ℕ))
      → ((program : List ℕ) → (program ≡ key.program → ⊥) → (n : ℕ) → at share_cmp (record { program = program; resource = n }) p.shares ≡ at share_cmp (record { program = program; resource = n }) shares)
      → (id : List ℕ) → (Contains (events_by_share key.program base) id → ⊥) → Stays base (record p { shares = shares }) id
  share_stays key shares same id free event is = same_part (record p { shares = shares }) id event (shares_stay p shares id event not_its) refl
    where
      not_its : is_frozen p id ≡ false → (n : ℕ) → share_in p event n ≡ share_in (record p { shares = shares }) event n
      not_its other =
          let differ = fails (λ program. bytes_eq program key.program) base id event (λ there. free (in_filter (λ id. not (is_frozen p id)) (events_in (λ program. bytes_eq program key.program) base) id (ap not other) there)) is in
          same event.program (λ of_it. true≢false (sym ((bytes_eq-Decides event.program key.program).1 of_it) ∙ differ))

  -- a resource

  module _ (n : ℕ) (id : List ℕ) (free : Contains (events_of_resource n base) id → ⊥) where
    of_resource : FreeOf (shares_in p n) (λ m. m == n) id
    of_resource = free_of (shares_in p n) (λ m. m == n) id free

    resource_not_kept : frozen_weight p id n ≡ None
    resource_not_kept = of_resource.unfrozen n (nat_eq_equiv.refl n)

    resource_puts : (resource : Resource) → Stays base (with_resource n resource p) id
    resource_puts resource event is =
        let none = takes_no_part p id event n resource_not_kept (fails (shares_in p n) base id event of_resource.unshared is) in
        same_part (with_resource n resource p) id event (sym (filter_map_put (participant_of p id event) n resource p.resources (none resource) (λ old found. none old))) refl

    resource_drops : Stays base (without_resource n p) id
    resource_drops event is = record {
      part = same;
      reports = reporters_alike id (λ m. m == n) p.reports (participants p id event) (part_by_weight p id event (λ m. (m == n) ≡ false) kept_is_not_it not_it);
    }
      where
        none : shares_in p n event.program ≡ false
        none = fails (shares_in p n) base id event of_resource.unshared is

        not_it : (m : ℕ) → shares_in p m event.program ≡ true → (m == n) ≡ false
        not_it m has = false_unless (m == n) (λ same. true≢false (sym has ∙ ap (λ (k : ℕ). shares_in p k event.program) (eqb-true m n same) ∙ none))

        kept_is_not_it : (m : ℕ) → is_some (frozen_weight p id m) ≡ true → (m == n) ≡ false
        kept_is_not_it m kept = false_unless (m == n) (λ same. true≢false (sym kept ∙ ap is_some (of_resource.unfrozen m same)))

        share_same : (m : ℕ) → share_in p event m ≡ share_in (without_resource n p) event m
        share_same m = sym (at-rows_at share_total share_exact (record { program = event.program; resource = m }) (λ (k : ShareKey). not (k.resource == n)) p.shares ∙ ⊎_elim
            (λ is. rw is (sym (ap (λ (k : ℕ). at share_cmp (record { program = event.program; resource = k }) p.shares) (eqb-true m n is) ∙ no_share p n event.program none)))
            (λ differ. rw differ refl)
            (cases_Bool (m == n)))

        kept_same : (m : ℕ) → frozen_weight p id m ≡ frozen_weight (without_resource n p) id m
        kept_same m = sym (at-rows_at frozen_total frozen_exact (frozen_key id m) (λ (k : FrozenKey). not (k.resource == n)) p.frozen_shares ∙ ⊎_elim
            (λ is. rw is (sym (of_resource.unfrozen m is)))
            (λ differ. rw differ refl)
            (cases_Bool (m == n)))

        same : participants p id event ≡ participants (without_resource n p) id event
        same =
            sym (filter_map_removed (participant_of p id event) (is_at (nat_cmp n)) p.resources (λ k r goes found. ap (λ (m : ℕ). participant_of p id event (m, r)) (sym (exact_unsigned n k (equal_from_is _ goes))) ∙ takes_no_part p id event n resource_not_kept none r))
            ∙ filter_map_same (participant_of p id event) (participant_of (without_resource n p) id event) (remove_entry (is_at (nat_cmp n)) p.resources)
            (each_there (λ r. participant_of p id event r ≡ participant_of (without_resource n p) id event r) (remove_entry (is_at (nat_cmp n)) p.resources) (λ r there.
            ap (λ (weight : Option ℕ). participant_by r weight (at nat_cmp r.1.ven p.vens)) (weight_stays p (without_resource n p) id event r refl (kept_same r.0) (share_same r.0))))

  -- a ven

  of_ven : (n : ℕ) (program : List ℕ) → one_shares p n program ≡ false → (r : ℕ × Resource) → Contains p.resources r → (r.1.ven == n) ≡ true → shares_in p r.0 program ≡ false
  of_ven n program none r there is = rest (r.1.ven == n) (shares_in p r.0 program) is (none_passes (λ r. (r.1.ven == n) && shares_in p r.0 program) p.resources r none there)
    where
      rest : (b c : Bool) → b ≡ true → (b && c) ≡ false → c ≡ false
      rest true c is h = h
      rest false c is h = absurd cc

  module _ (n : ℕ) (id : List ℕ) (free : Contains (events_of_ven n base) id → ⊥) where
    of_the_ven : FreeOf (one_shares p n) (has_resource p n) id
    of_the_ven = free_of (one_shares p n) (has_resource p n) id free

    -- nothing is kept for a resource of the ven
    ven_not_kept : (r : ℕ × Resource) → Contains p.resources r → (r.1.ven == n) ≡ true → frozen_weight p id r.0 ≡ None
    ven_not_kept r there is = of_the_ven.unfrozen r.0 (one_passes (λ s. (s.1.ven == n) && (s.0 == r.0)) p.resources r there (ap₂ ◌&&◌ is (nat_eq_equiv.refl r.0)))

    ven_no_part : (q : Portfolio) (event : EventBody) → event_body (at mirror_cmp (event_key id) base.mirror) ≡ Some event → (r : ℕ × Resource) → Contains p.resources r → (r.1.ven == n) ≡ true → p.frozen_shares ≡ q.frozen_shares → p.shares ≡ q.shares → participant_of q id event r ≡ None
    ven_no_part q event is r there own kept shares =
        takes_no_part q id event r.0 (ap (at frozen_cmp (frozen_key id r.0)) (sym kept) ∙ ven_not_kept r there own)
        (ap (λ (ss : List (ShareKey × ℕ)). is_some (at share_cmp (record { program = event.program; resource = r.0 }) ss)) (sym shares) ∙ of_ven n event.program (fails (one_shares p n) base id event of_the_ven.unshared is) r there own) r.1

    ven_puts : (ven : Ven) → Stays base (with_ven n ven p) id
    ven_puts ven event is =
        same_part (with_ven n ven p) id event (filter_map_same (participant_of p id event) (participant_of (with_ven n ven p) id event) p.resources (each_there (λ r. participant_of p id event r ≡ participant_of (with_ven n ven p) id event r) p.resources one)) refl
      where
        one : (r : ℕ × Resource) → Contains p.resources r → participant_of p id event r ≡ participant_of (with_ven n ven p) id event r
        one r there = ⊎_elim
            (λ own. ven_no_part p event is r there own refl refl ∙ sym (ven_no_part (with_ven n ven p) event is r there own refl refl))
            (λ differ. ap (participant_by r (weight_in p id event r)) (sym (at-insert_entry nat_cmp_total r.1.ven n ven p.vens ∙ rw (not_equal r.1.ven n differ) refl)))
            (cases_Bool (r.1.ven == n))

    ven_drops : Stays base (without_ven n p) id
    ven_drops event is = record {
      part = sym (filter_map_passing (λ r. not (r.1.ven == n)) (participant_of (without_ven n p) id event) (participant_of p id event) p.resources (each_there (MakesOfPassing (λ r. not (r.1.ven == n)) (participant_of (without_ven n p) id event) (participant_of p id event)) p.resources one));
      reports = reporters_alike id (is_of_ven n p.resources) p.reports (participants p id event) (part_by_weight p id event (λ m. is_of_ven n p.resources m ≡ false) kept_elsewhere elsewhere);
    }
      where
        none : one_shares p n event.program ≡ false
        none = fails (one_shares p n) base id event of_the_ven.unshared is

        -- a resource of the ven is there
        its : (m : ℕ) → is_of_ven n p.resources m ≡ true → (r : Resource) × Contains p.resources (m, r) × ((r.ven == n) ≡ true)
        its m = by (at nat_cmp m p.resources) refl
          where
            by : (o : Option Resource) → at nat_cmp m p.resources ≡ o → option_map_or (λ r. r.ven == n) o false ≡ true → (r : Resource) × Contains p.resources (m, r) × ((r.ven == n) ≡ true)
            by None found own = absurd cc
            by (Some r) found own = (r, Contains-from_lookup (tells_apart exact_unsigned) m r p.resources found, own)

        elsewhere : (m : ℕ) → shares_in p m event.program ≡ true → is_of_ven n p.resources m ≡ false
        elsewhere m has = false_unless (is_of_ven n p.resources m) (λ own. let r = its m own in true≢false (sym has ∙ of_ven n event.program none (m, r.0) r.1 r.2))

        kept_elsewhere : (m : ℕ) → is_some (frozen_weight p id m) ≡ true → is_of_ven n p.resources m ≡ false
        kept_elsewhere m kept = false_unless (is_of_ven n p.resources m) (λ own. let r = its m own in true≢false (sym kept ∙ ap is_some (ven_not_kept (m, r.0) r.1 r.2)))

        share_same : (m : ℕ) → share_in (without_ven n p) event m ≡ share_in p event m
        share_same m = at-rows_at share_total share_exact (record { program = event.program; resource = m }) (λ (k : ShareKey). not (is_of_ven n p.resources k.resource)) p.shares ∙ ⊎_elim
            (λ is. rw is (sym (no_share p m event.program (false_unless (shares_in p m event.program) (λ has. true≢false (sym is ∙ elsewhere m has))))))
            (λ stays. rw stays refl)
            (cases_Bool (is_of_ven n p.resources m))

        kept_same : (m : ℕ) → frozen_weight (without_ven n p) id m ≡ frozen_weight p id m
        kept_same m = at-rows_at frozen_total frozen_exact (frozen_key id m) (λ (k : FrozenKey). not (is_of_ven n p.resources k.resource)) p.frozen_shares ∙ ⊎_elim
            (λ is. rw is (sym (is_none_from (frozen_weight p id m) (false_unless (is_some (frozen_weight p id m)) (λ kept. true≢false (sym is ∙ kept_elsewhere m kept))))))
            (λ stays. rw stays refl)
            (cases_Bool (is_of_ven n p.resources m))

        one : (r : ℕ × Resource) → Contains p.resources r → MakesOfPassing (λ r. not (r.1.ven == n)) (participant_of (without_ven n p) id event) (participant_of p id event) r
        one r there = record {
          passes = λ passed. ap₂ (participant_by r) (weight_stays (without_ven n p) p id event r refl (kept_same r.0) (share_same r.0))
              (lookup-removed_other (is_at (nat_cmp n)) (is_at (nat_cmp r.1.ven)) p.vens (λ k goes. not_tied r.1.ven k (λ same. true≢false (sym passed ∙ ap not (ap (λ (m : ℕ). m == n) (same ∙ sym (exact_unsigned n k (equal_from_is _ goes))) ∙ nat_eq_equiv.refl n)))));
          fails = λ failed. ven_no_part p event is r there (is_true (r.1.ven == n) failed) refl refl;
        }
          where
            is_true : (b : Bool) → not b ≡ false → b ≡ true
            is_true true h = refl
            is_true false h = absurd cc

  -- a report

  abbrev on : List ℕ → ℕ × Report → Option (ℕ × Report)
  on id r = cond (bytes_eq r.1.body.head.event id) (Some r) None

  on_another : (id : List ℕ) (r : ℕ × Report) → (r.1.body.head.event ≡ id → ⊥) → on id r ≡ None
  on_another id r other = rw (false_unless (bytes_eq r.1.body.head.event id) (λ is. other ((bytes_eq-Decides r.1.body.head.event id).0 is))) refl

  old_names : (n : ℕ) (id : List ℕ) (r : Report) → at nat_cmp n p.reports ≡ Some r → r.body.head.event ≡ id → Contains (event_reported p n) id
  old_names n id r found is = rw found (subst (λ (m : List ℕ). Contains (r.body.head.event ∷ []) m) is (the_first r.body.head.event []))

  reports_stay : (q : Portfolio) (id : List ℕ) → ((event : EventBody) → participants p id event ≡ participants q id event) → filter_map (on id) p.reports ≡ filter_map (on id) q.reports → Stays base q id
  reports_stay q id part reports event is = record {
    part = part event;
    reports = ap (λ (rs : List (ℕ × Report)). reporters (map (λ r. r.1) rs) (participants p id event)) (filter_is (λ r. bytes_eq r.1.body.head.event id) p.reports ∙ reports ∙ sym (filter_is (λ r. bytes_eq r.1.body.head.event id) q.reports));
  }

  report_puts : (n : ℕ) (report : Report) (id : List ℕ) → (Contains (report.body.head.event ∷ event_reported p n) id → ⊥) → Stays base (with_report n report p) id
  report_puts n report id free = reports_stay (with_report n report p) id (λ event. refl) (sym (filter_map_put (on id) n report p.reports
      (on_another id (n, report) (λ is. free (subst (λ (m : List ℕ). Contains (report.body.head.event ∷ event_reported p n) m) is (the_first report.body.head.event (event_reported p n)))))
      (λ old found. on_another id (n, old) (λ is. free (behind_first report.body.head.event (event_reported p n) id (old_names n id old found is))))))

  report_drops : (n : ℕ) (id : List ℕ) → (Contains (event_reported p n) id → ⊥) → Stays base (without_report n p) id
  report_drops n id free = reports_stay (without_report n p) id (λ event. refl) (sym (filter_map_removed (on id) (is_at (nat_cmp n)) p.reports (λ k r goes found. on_another id (k, r) (λ is. free (old_names n id r found is)))))

  another_report : (m n : ℕ) → (Contains (n ∷ []) m → ⊥) → is_eq (nat_cmp m n) ≡ false
  another_report m n free = not_tied m n (λ same. free (subst (λ (k : ℕ). Contains (n ∷ []) k) (sym same) (the_first n [])))

-- an edit of the portfolio leaves what is shown of each source that it does not touch
pub edits_leave_others : (c : PortfolioChange) (base : Base) (s : Source) → (Contains (touched_by c base) s → ⊥) → rows_of base s ≡ rows_of (changed (ChangePortfolio c) base) s
edits_leave_others (PutVen n ven) base = shared_stay base (with_ven n ven base.portfolio) [] (events_touched (PutVen n ven) base) (λ m free. refl) (λ id free. ven_puts base n id free ven)
edits_leave_others (DropVen n) base = shared_stay base (without_ven n base.portfolio) (reports_touched (DropVen n) base) (events_touched (DropVen n) base) (report_passes (is_of_ven n base.portfolio.resources) base.portfolio) (ven_drops base n)
edits_leave_others (PutResource n resource) base = shared_stay base (with_resource n resource base.portfolio) [] (events_touched (PutResource n resource) base) (λ m free. refl) (λ id free. resource_puts base n id free resource)
edits_leave_others (DropResource n) base = shared_stay base (without_resource n base.portfolio) (reports_touched (DropResource n) base) (events_touched (DropResource n) base) (report_passes (λ m. m == n) base.portfolio) (resource_drops base n)
edits_leave_others (PutShare key weight) base =
    shared_stay base (portfolio_after (PutShare key weight) base.portfolio) [] (events_touched (PutShare key weight) base) (λ m free. refl)
    (share_stays base key (insert_entry share_cmp base.portfolio.shares key weight) (λ program differ. kept_by_put program key differ base.portfolio.shares weight))
edits_leave_others (DropShare key) base =
    shared_stay base (portfolio_after (DropShare key) base.portfolio) [] (events_touched (DropShare key) base) (λ m free. refl)
    (share_stays base key (remove_entry (is_at (share_cmp key)) base.portfolio.shares) (λ program differ. kept_by_removal program key differ base.portfolio.shares))
edits_leave_others (PutReport n report) base =
    sources_stay base (with_report n report base.portfolio) [] (n ∷ []) (events_touched (PutReport n report) base) (λ id free event is. refl)
    (λ m free. let apart = another_report base m n free in sym (at-insert_entry nat_cmp_total m n report base.portfolio.reports ∙ rw apart refl))
    (report_puts base n report)
edits_leave_others (DropReport n) base =
    sources_stay base (without_report n base.portfolio) [] (n ∷ []) (events_touched (DropReport n) base) (λ id free event is. refl)
    (λ m free. sym (lookup-removed_other (is_at (nat_cmp n)) (is_at (nat_cmp m)) base.portfolio.reports (λ k goes. subst (λ (j : ℕ). is_eq (nat_cmp m j) ≡ false) (exact_unsigned n k (equal_from_is _ goes)) (another_report base m n free))))
    (report_drops base n)
edits_leave_others (PutSub n sub) base = shared_stay base (portfolio_after (PutSub n sub) base.portfolio) [] [] (λ m free. refl) (λ id free event is. same_part base (portfolio_after (PutSub n sub) base.portfolio) id event refl refl)
edits_leave_others (DropSub n) base = shared_stay base (portfolio_after (DropSub n) base.portfolio) [] [] (λ m free. refl) (λ id free event is. same_part base (portfolio_after (DropSub n) base.portfolio) id event refl refl)
edits_leave_others (Freeze id pairs) base = shared_stay base (with_frozen id pairs base.portfolio) [] (events_by_freezing id pairs base) (λ m free. ap (at nat_cmp m) (sym (reports_as_before base.portfolio id pairs))) (freeze_stays base id pairs)
