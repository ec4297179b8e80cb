-- Who takes part in an event that is frozen, and what is told as it is frozen.
use Rattle.std.proofs.Common.{append_assoc, ◌≡◌, ◌⊎◌, inl, inr, ℕ, Bool, true, false, cond, ⊎_elim, List, [], ◌∷◌, ◌++◌, map, filter, Option, Some, None, Ordering, Result, Ok, Err, refl, sym, ap, ap₂, subst, ◌∙◌}
use Rattle.std.specs.Prelude.{IfOk, bytes_eq, is_some, option_map}
use Rattle.std.specs.List.{cons_option, filter_map}
use Rattle.std.specs.Map.{keys_of}
use Rattle.std.specs.Ordering.{is_eq, nat_cmp, ordering_then}
use Rattle.std.proofs.lemmas.Bool.{cases_Bool, cond_both, false_from_ne_true}
use Rattle.std.proofs.lemmas.Cmp.{nat_list_cmp_total, tied_itself}
use Rattle.std.proofs.lemmas.Slice.Eq.{bytes_eq-Decides}
use Rattle.adr_text.specs.Refusals.{◌>>=◌, or_else}
use Rattle.adr_text.specs.declared.refusal.Refusal.{Refusal}
use Rattle.adr_text.specs.declared.refusal.Refusal.TheVariants.{Forbidden, LimitReached, NotFound}
use Rattle.adr_delivery.specs.declared.outbox.Outbox.{Outbox}
use Rattle.adr_objects.specs.declared.body.EventBody.{EventBody}
use Rattle.adr_objects.specs.declared.shown.FrozenObject.{FrozenObject}
use Rattle.adr_objects.specs.declared.shown.Stamps.{Stamps}
use Rattle.adr_state.specs.declared.base.Base.{Base}
use Rattle.adr_state.specs.declared.keys.FrozenKey.{FrozenKey}
use Rattle.adr_state.specs.declared.keys.ViewKey.{ViewKey}
use Rattle.adr_state.specs.declared.limits.Limits.{Limits}
use Rattle.adr_state.specs.declared.limits.Settings.{Settings}
use Rattle.adr_state.specs.declared.portfolio.Portfolio.{Portfolio}
use Rattle.adr_state.specs.declared.portfolio.Resource.{Resource}
use Rattle.adr_state.specs.declared.state.State.{State}
use Rattle.adr_state.specs.BaseChanges.{ChangePortfolio, changed}
use Rattle.adr_state.specs.Frozen.{is_frozen, frozen_key, frozen_weight, is_of_event, pair_of, pairs_kept}
use Rattle.adr_state.specs.Keys.{frozen_cmp, id_cmp, share_cmp}
use Rattle.adr_state.specs.Participants.{is_for, participants}
use Rattle.adr_state.specs.Portfolios.{PortfolioChange, portfolio_after, Freeze as FreezeEvent}
use Rattle.adr_state.proofs.LawLemmas.{at-insert_entry, equal_from_is}
use Rattle.adr_view.specs.Frozen.{can_not_keep, freeze, frozen_as, frozen_with, pairs_of}
use Rattle.adr_view.specs.Laws.{LeavesWhoTakesPart}
use Rattle.adr_view.specs.Rollups.{event_at}
use Rattle.adr_view.proofs.FrozenLemmas.{freezing_leaves, frozen_now, now_frozen, still_frozen}
use Rattle.adr_view.proofs.KeyLemmas.{frozen_exact}
use Rattle.adr_view.proofs.ListLemmas.{filter_map_same}
use Rattle.adr_view.proofs.MapLemmas.{past_head}
use Rattle.adr_view.proofs.OrderLemmas.{InOrder}
use Rattle.adr_view.proofs.RowLemmas.{each_there}
use Rattle.adr_queries.specs.declared.answer.Answer.{Answer}
use Rattle.adr_queries.specs.declared.answer.Answer.TheVariants as answer
use Rattle.adr_queries.specs.declared.role.Role.{Role}
use Rattle.adr_queries.specs.Frozen.{frozen_object}
use Rattle.adr_machine.specs.declared.command.Command.{Command}
use Rattle.adr_machine.specs.declared.command.Command.TheVariants.{Freeze}
use Rattle.adr_machine.specs.Edits.{draws_number, edit, edit_of, frozen_outcome, is_allowed, numbered, of_portfolio}
use Rattle.adr_machine.specs.Steps.{committed, outbox_then, step}
use Rattle.adr_laws.specs.Entries.{reached}
use Rattle.adr_laws.specs.Standing.{state_of}
use Rattle.adr_laws.proofs.Common.{IsDistinct-from_sorted, at, empty, eq_by_cmp_equiv, exact_unsigned, lookup-from_Contains, nat_cmp_total, sorted_tail, state_after, step_at}
use Rattle.adr_laws.proofs.EnrolledLemmas.{lack_none}
use Rattle.adr_laws.proofs.PortfolioLemmas.{Whole, portfolio_whole, whole_after}
use Rattle.adr_laws.proofs.RunLemmas.{state_of-push}
use Rattle.adr_frozen_laws.specs.FrozenRuns.{StaysFrozen, weighed, KeptTakePart, FreezesAreKept}
use Rattle.adr_frozen_laws.proofs.Weights.{stays_kept}
use Rattle.adr_frozen_laws.proofs.Runs.{frozen_stay}

-- ---- who takes part

pub kept_take_part : KeptTakePart
kept_take_part settings cs id event frozen =
    let base : Base = (reached settings cs).base in
    let p : Portfolio = base.portfolio in
    lack_none base id event (portfolio_whole settings cs)
    ∙ ap (λ (b : Bool). filter_map (λ (r : ℕ × Resource). option_map (λ (w : ℕ). (r.0, w)) (cond b (frozen_weight p id r.0) (weight_by_share p event r))) p.resources) frozen
  where
    weight_by_share : Portfolio → EventBody → ℕ × Resource → Option ℕ
    weight_by_share p event r = cond (is_for event.resource_names r.1.name) (at share_cmp (record { program = event.program; resource = r.0 }) p.shares) None

-- ---- weights among pairs

-- the weight that is kept for a resource is that of its pair
kept_at : (id : List ℕ) (n : ℕ) (shares : List (FrozenKey × ℕ)) → at frozen_cmp (frozen_key id n) shares ≡ at nat_cmp n (map pair_of (filter (is_of_event id) shares))
kept_at id n [] = refl
kept_at id n (s ∷ shares) = ⊎_elim (own (kept_at id n shares)) (other (kept_at id n shares)) (cases_Bool (bytes_eq s.0.event id))
  where
    rest : Option ℕ
    rest = at nat_cmp n (map pair_of (filter (is_of_event id) shares))

    own : at frozen_cmp (frozen_key id n) shares ≡ rest → bytes_eq s.0.event id ≡ true → at frozen_cmp (frozen_key id n) (s ∷ shares) ≡ at nat_cmp n (map pair_of (filter (is_of_event id) (s ∷ shares)))
    own more matches =
        let same : id ≡ s.0.event = sym ((bytes_eq-Decides s.0.event id).0 matches) in
        ap₂ (λ (o : Ordering) (more : Option ℕ). cond (is_eq (ordering_then o (nat_cmp n s.0.resource))) (Some s.1) more) (ap (id_cmp id) (sym same) ∙ tied_itself nat_list_cmp_total id) more
        ∙ sym (ap (λ (b : Bool). at nat_cmp n (map pair_of (cond b (s ∷ filter (is_of_event id) shares) (filter (is_of_event id) shares)))) matches)

    other : at frozen_cmp (frozen_key id n) shares ≡ rest → bytes_eq s.0.event id ≡ false → at frozen_cmp (frozen_key id n) (s ∷ shares) ≡ at nat_cmp n (map pair_of (filter (is_of_event id) (s ∷ shares)))
    other more apart_from =
        let apart : is_eq (frozen_cmp (frozen_key id n) s.0) ≡ false = false_from_ne_true (is_eq (frozen_cmp (frozen_key id n) s.0)) (λ is.
        let event : id ≡ s.0.event = ap (λ (k : FrozenKey). k.event) (frozen_exact (frozen_key id n) s.0 (equal_from_is _ is)) in
        let both : true ≡ false = sym ((bytes_eq-Decides s.0.event id).1 (sym event)) ∙ apart_from in cc) in
        ap (λ (b : Bool). cond b (Some s.1) (at frozen_cmp (frozen_key id n) shares)) apart ∙ more
        ∙ sym (ap (λ (b : Bool). at nat_cmp n (map pair_of (cond b (s ∷ filter (is_of_event id) shares) (filter (is_of_event id) shares)))) apart_from)

-- what is weighed is found by the number of its resource, where that is there
abbrev IsWeighed : (ℕ → Option ℕ) → ℕ → List (ℕ × Resource) → Type 0
IsWeighed weight_of n rows = at nat_cmp n (filter_map (λ r. option_map (λ w. (r.0, w)) (weight_of r.0)) rows) ≡ cond (is_some (at nat_cmp n rows)) (weight_of n) None

weighed_at : (weight_of : ℕ → Option ℕ) (n : ℕ) (rows : List (ℕ × Resource)) → InOrder nat_cmp rows → IsWeighed weight_of n rows
weighed_at weight_of n [] up = refl
weighed_at weight_of n (r ∷ rows) up =
    let behind = weighed_at weight_of n rows (sorted_tail nat_cmp r.0 (keys_of rows) up) in
    ⊎_elim (its behind) (others behind) (cases_Bool (is_eq (nat_cmp n r.0)))
  where
    rest : List (ℕ × ℕ)
    rest = filter_map (λ r. option_map (λ w. (r.0, w)) (weight_of r.0)) rows

    first : Option ℕ → List (ℕ × ℕ)
    first None = rest
    first (Some w) = (r.0, w) ∷ rest

    same : filter_map (λ r. option_map (λ w. (r.0, w)) (weight_of r.0)) (r ∷ rows) ≡ first (weight_of r.0)
    same = by (weight_of r.0)
      where
        by : (o : Option ℕ) → cons_option (option_map (λ w. (r.0, w)) o) rest ≡ first o
        by None = refl
        by (Some w) = refl

    its : IsWeighed weight_of n rows → is_eq (nat_cmp n r.0) ≡ true → at nat_cmp n (filter_map (λ r. option_map (λ w. (r.0, w)) (weight_of r.0)) (r ∷ rows)) ≡ cond (is_some (at nat_cmp n (r ∷ rows))) (weight_of n) None
    its behind matches =
        let one : n ≡ r.0 = exact_unsigned n r.0 (equal_from_is _ matches) in
        let gone : at nat_cmp n rest ≡ None = behind ∙ ap (λ (o : Option Resource). cond (is_some o) (weight_of n) None) (past_head nat_cmp_total n r rows up matches) in
        ap (at nat_cmp n) same ∙ by (weight_of r.0) gone ∙ ap weight_of (sym one) ∙ sym (ap (λ (b : Bool). cond (is_some (cond b (Some r.1) (at nat_cmp n rows))) (weight_of n) None) matches)
      where
        by : (o : Option ℕ) → at nat_cmp n rest ≡ None → at nat_cmp n (first o) ≡ o
        by None gone = gone
        by (Some w) gone = ap (λ (b : Bool). cond b (Some w) (at nat_cmp n rest)) matches

    others : IsWeighed weight_of n rows → is_eq (nat_cmp n r.0) ≡ false → at nat_cmp n (filter_map (λ r. option_map (λ w. (r.0, w)) (weight_of r.0)) (r ∷ rows)) ≡ cond (is_some (at nat_cmp n (r ∷ rows))) (weight_of n) None
    others behind differs = ap (at nat_cmp n) same ∙ by (weight_of r.0) ∙ behind ∙ sym (ap (λ (b : Bool). cond (is_some (cond b (Some r.1) (at nat_cmp n rows))) (weight_of n) None) differs)
      where
        by : (o : Option ℕ) → at nat_cmp n (first o) ≡ at nat_cmp n rest
        by None = refl
        by (Some w) = ap (λ (b : Bool). cond b (Some w) (at nat_cmp n rest)) differs

-- ---- what is decided as an event is frozen

module _ (limits : Limits) (id : List ℕ) (base : Base) where
  abbrev p : Portfolio
  p = base.portfolio

  -- it was frozen before, and what is kept is told; or it is frozen with those who take part in it, who are told
  abbrev WasSo : List (ℕ × ℕ) × PortfolioChange → Type 0
  WasSo d = (is_frozen p id ≡ true) × (d ≡ (pairs_kept p id, FreezeEvent id []))

  record IsNow (d : List (ℕ × ℕ) × PortfolioChange) : Type 0 where
    event : EventBody
    live : event_at base.mirror id ≡ Some event
    fresh : is_frozen p id ≡ false
    is : d ≡ (pairs_of (participants p id event), FreezeEvent id (pairs_of (participants p id event)))

  abbrev How : List (ℕ × ℕ) × PortfolioChange → Type 0
  How d = WasSo d ⊎ IsNow d

  frozen_how : IfOk (freeze limits id base.mirror p) How
  frozen_how = by_event (event_at base.mirror id) refl
    where
      by_frozen : (event : EventBody) → event_at base.mirror id ≡ Some event → (b : Bool) → is_frozen p id ≡ b → IfOk (cond b (Ok (pairs_kept p id, FreezeEvent id [])) (frozen_with limits id (pairs_of (participants p id event)) base.mirror p)) How
      by_frozen event live true frozen = inl (frozen, refl)
      by_frozen event live false fresh =
          let own : List (ℕ × ℕ) = pairs_of (participants p id event) in
          cond_both (can_not_keep limits id own base.mirror p) (Err LimitReached) (Ok (own, FreezeEvent id own)) (λ r. IfOk r How) (λ can_not. tt) (λ can. inr (record { event = event; live = live; fresh = fresh; is = refl }))

      by_event : (o : Option EventBody) → event_at base.mirror id ≡ o → IfOk (or_else NotFound o >>= λ event. frozen_as limits id event base.mirror p) How
      by_event None live = tt
      by_event (Some event) live = by_frozen event live (is_frozen p id) refl

-- ---- what is told of it

abbrev of_answer : Answer → List (ℕ × ℕ)
of_answer (answer.Frozen object) = object.shares
of_answer _ = []

abbrev shares_told : Result (Answer × State) Refusal → List (ℕ × ℕ)
shares_told (Ok r) = of_answer r.0
shares_told (Err e) = []

abbrev portfolio_left : Portfolio → Result (Answer × State) Refusal → Portfolio
portfolio_left p (Ok r) = r.1.base.portfolio
portfolio_left p (Err e) = p

-- a freeze that was accepted was decided so
record WasDecided (settings : Settings) (s : State) (id : List ℕ) (told : FrozenObject) (next : State) : Type 0 where
  decision : List (ℕ × ℕ) × PortfolioChange
  decides : freeze settings.limits id s.base.mirror s.base.portfolio ≡ Ok decision
  tells : told.shares ≡ decision.0
  leaves : next.base.portfolio ≡ portfolio_after decision.1 s.base.portfolio

module _ (settings : Settings) (s : State) (now : ℕ) (role : Role) (id : List ℕ) (told : FrozenObject) (next : State) where
  abbrev Accepted : Result (Answer × State) Refusal → Type 0
  Accepted r = r ≡ Ok (answer.Frozen told, next)

  by_outbox : (d : List (ℕ × ℕ) × PortfolioChange) (stamps : List (ViewKey × Stamps)) (r : Result (Outbox × ℕ) Refusal) → freeze settings.limits id s.base.mirror s.base.portfolio ≡ Ok d
      → Accepted (r >>= λ o. Ok (answer.Frozen (frozen_object id d.0), record { base = record (changed (ChangePortfolio d.1) s.base) { serial = o.1 }; stamps = stamps; outbox = o.0 })) → WasDecided settings s id told next
  by_outbox d stamps (Err e) decides is = absurd (cc is)
  by_outbox d stamps (Ok o) decides is = record { decision = d; decides = decides; tells = sym (ap shares_told is); leaves = sym (ap (portfolio_left s.base.portfolio) is) }

  by_decision : (r : Result (List (ℕ × ℕ) × PortfolioChange) Refusal) → freeze settings.limits id s.base.mirror s.base.portfolio ≡ r
      → Accepted ((of_portfolio (frozen_outcome id) r >>= numbered settings.limits (draws_number (Freeze role id)) s.base) >>= λ e. committed settings s now e.0 e.1) → WasDecided settings s id told next
  by_decision (Err e) decides is = absurd (cc is)
  by_decision (Ok d) decides is = by_outbox d _ (outbox_then settings s now (changed (ChangePortfolio d.1) s.base)) decides is

  was_decided : Accepted (step settings s now (Freeze role id)) → WasDecided settings s id told next
  unfolding edit
  was_decided = by (is_allowed (Freeze role id))
    where
      by : (b : Bool) → Accepted (cond b (edit_of settings.limits now s.base (Freeze role id)) (Err Forbidden) >>= λ e. committed settings s now e.0 e.1) → WasDecided settings s id told next
      by false is = absurd (cc is)
      by true is = by_decision (freeze settings.limits id s.base.mirror s.base.portfolio) refl is

-- ---- from then on

module _ (settings : Settings) (cs : List (ℕ × Command)) (now : ℕ) (role : Role) (id : List ℕ) (told : FrozenObject) (next : State) (is : step settings (reached settings cs) now (Freeze role id) ≡ Ok (answer.Frozen told, next)) where
  abbrev s : State
  s = reached settings cs

  abbrev c : ℕ × Command
  c = (now, Freeze role id)

  -- the state after it is one that a run reaches
  after_it : reached settings (cs ++ c ∷ []) ≡ next
  after_it = state_of-push (step_at settings) empty cs c ∙ ap (state_after s) is

  whole_next : Whole empty.base next.base
  whole_next = subst (λ (t : State). Whole empty.base t.base) after_it (whole_after settings (cs ++ c ∷ []))

  -- the event is frozen, and what is kept is what was told
  record IsKeptAs : Type 0 where
    frozen : is_frozen next.base.portfolio id ≡ true
    weights : (n : ℕ) → frozen_weight next.base.portfolio id n ≡ at nat_cmp n told.shares

  it_was : WasDecided settings s id told next
  it_was = was_decided settings s now role id told next is

  so_before : WasSo settings.limits id s.base it_was.decision → IsKeptAs
  so_before was =
      let same : next.base.portfolio ≡ s.base.portfolio = it_was.leaves ∙ ap (λ (d : List (ℕ × ℕ) × PortfolioChange). portfolio_after d.1 s.base.portfolio) was.1 ∙ still_frozen s.base.portfolio id [] was.0 in
      record {
        frozen = ap (λ (q : Portfolio). is_frozen q id) same ∙ was.0;
        weights = λ n. ap (λ (q : Portfolio). frozen_weight q id n) same ∙ kept_at id n s.base.portfolio.frozen_shares ∙ sym (ap (at nat_cmp n) (it_was.tells ∙ ap (λ (d : List (ℕ × ℕ) × PortfolioChange). d.0) was.1));
      }

  now_so : IsNow settings.limits id s.base it_was.decision → IsKeptAs
  now_so now_is =
      let own : List (ℕ × ℕ) = pairs_of (participants s.base.portfolio id now_is.event) in
      let left : next.base.portfolio ≡ frozen_now s.base.portfolio id own = it_was.leaves ∙ ap (λ (d : List (ℕ × ℕ) × PortfolioChange). portfolio_after d.1 s.base.portfolio) now_is.is ∙ now_frozen s.base.portfolio id own now_is.fresh in
      let frozen : is_frozen next.base.portfolio id ≡ true = ap (λ (q : Portfolio). is_frozen q id) left ∙ ap is_some (at-insert_entry nat_list_cmp_total id id tt s.base.portfolio.frozen)
      ∙ ap (λ (o : Ordering). is_some (cond (is_eq o) (Some tt) (at id_cmp id s.base.portfolio.frozen))) (tied_itself nat_list_cmp_total id) in
      let stay : participants s.base.portfolio id now_is.event ≡ participants (portfolio_after it_was.decision.1 s.base.portfolio) id now_is.event =
      subst (λ (r : Result (List (ℕ × ℕ) × PortfolioChange) Refusal). IfOk r (λ d. LeavesWhoTakesPart s.base d.1)) it_was.decides (freezing_leaves.who_takes_part settings.limits id s.base) id now_is.event now_is.live in
      let take_part : pairs_of (participants next.base.portfolio id now_is.event) ≡ weighed next.base.portfolio (frozen_weight next.base.portfolio id) =
      subst (λ (t : State). is_frozen t.base.portfolio id ≡ true → pairs_of (participants t.base.portfolio id now_is.event) ≡ weighed t.base.portfolio (frozen_weight t.base.portfolio id)) after_it (kept_take_part settings (cs ++ c ∷ []) id now_is.event) frozen in
      let shares : told.shares ≡ weighed next.base.portfolio (frozen_weight next.base.portfolio id) =
      it_was.tells ∙ ap (λ (d : List (ℕ × ℕ) × PortfolioChange). d.0) now_is.is ∙ ap pairs_of (stay ∙ sym (ap (λ (q : Portfolio). participants q id now_is.event) it_was.leaves)) ∙ take_part in
      record {
        frozen = frozen;
        weights = λ n. stays_kept next.base.portfolio whole_next.0.1.3 id next.base.portfolio (λ m there. there) n ∙ sym (ap (at nat_cmp n) shares ∙ weighed_at (frozen_weight next.base.portfolio id) n next.base.portfolio.resources whole_next.0.0.others.in_order);
      }

  kept_as : IsKeptAs
  kept_as = elim (subst (λ (r : Result (List (ℕ × ℕ) × PortfolioChange) Refusal). IfOk r (How settings.limits id s.base)) it_was.decides (frozen_how settings.limits id s.base)) [ inl was ↦ so_before was | inr now_is ↦ now_so now_is ]

  module _ (more : List (ℕ × Command)) where
    abbrev t : State
    t = reached settings (cs ++ c ∷ more)

    stays : StaysFrozen next.base.portfolio t.base.portfolio id
    stays =
        let on : reached settings ((cs ++ c ∷ []) ++ more) ≡ t = ap (reached settings) (append_assoc cs (c ∷ []) more) in
        subst (λ (first : State). StaysFrozen first.base.portfolio t.base.portfolio id) after_it
        (subst (λ (last : State). StaysFrozen (reached settings (cs ++ c ∷ [])).base.portfolio last.base.portfolio id) on
        (frozen_stay settings (cs ++ c ∷ []) more id (subst (λ (first : State). is_frozen first.base.portfolio id ≡ true) (sym after_it) kept_as.frozen)))

    told_still : (event : EventBody) → pairs_of (participants t.base.portfolio id event) ≡ weighed t.base.portfolio (λ n. at nat_cmp n told.shares)
    told_still event =
        let p : Portfolio = t.base.portfolio in
        let whole : Whole empty.base t.base = whole_after settings (cs ++ c ∷ more) in
        kept_take_part settings (cs ++ c ∷ more) id event stays.frozen
        ∙ filter_map_same (λ (r : ℕ × Resource). option_map {U = ℕ × ℕ} (λ (w : ℕ). (r.0, w)) (frozen_weight p id r.0)) (λ r. option_map {U = ℕ × ℕ} (λ (w : ℕ). (r.0, w)) (at nat_cmp r.0 told.shares)) p.resources
        (each_there (λ r. option_map {U = ℕ × ℕ} (λ (w : ℕ). (r.0, w)) (frozen_weight p id r.0) ≡ option_map {U = ℕ × ℕ} (λ (w : ℕ). (r.0, w)) (at nat_cmp r.0 told.shares)) p.resources
        (λ r there. ap (option_map {U = ℕ × ℕ} (λ (w : ℕ). (r.0, w)))
        (stays.weights r.0 ∙ ap (λ (o : Option Resource). cond (is_some o) (frozen_weight next.base.portfolio id r.0) None) (lookup-from_Contains (eq_by_cmp_equiv nat_cmp_total) r.0 r.1 p.resources (IsDistinct-from_sorted nat_cmp (keys_of p.resources) whole.0.0.others.in_order) there) ∙ kept_as.weights r.0)))

pub freezes_are_kept : FreezesAreKept
freezes_are_kept settings cs more now role id told event was = told_still settings cs now role id told was.0 was.1 more event
