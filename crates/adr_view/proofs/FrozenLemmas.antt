-- What freezing an event leaves: the participants of each other, and its own where it is frozen with them; and what leaves those of a frozen event.
use Rattle.std.proofs.Common.{◌≡◌, ℕ, Bool, true, false, cond, not, ⊎_elim, List, [], ◌∷◌, ◌++◌, map, filter, ◌||◌, Option, Some, None, Ordering, refl, sym, ap, ap₂, subst, ◌∙◌, eqb-true}
use Rattle.std.specs.Prelude.{bytes_eq, is_some, option_map, option_and_then, Ok, Err, IfOk}
use Rattle.std.specs.List.{filter_map, list_any}
use Rattle.std.specs.Option.{option_map_or, option_or}
use Rattle.std.specs.Ordering.{ordering_then}
use Rattle.std.proofs.lemmas.Bool.{cases_Bool, cond_both, false_from_ne_true, true≢false}
use Rattle.std.proofs.lemmas.Cmp.{nat_eq_equiv, nat_list_cmp_total, on_total, then_total, tied_itself}
use Rattle.std.proofs.lemmas.Map.Entries.{lookup-filter-keys}
use Rattle.std.proofs.lemmas.Map.Views.{lookup-from_Contains}
use Rattle.std.proofs.lemmas.Option.{same_Some}
use Rattle.std.proofs.lemmas.Slice.Eq.{bytes_eq-Decides}
use Rattle.adr_text.specs.Refusals.{◌>>=◌, or_else}
use Rattle.adr_text.specs.declared.refusal.Refusal.TheVariants.{NotFound, LimitReached}
use Rattle.adr_objects.specs.declared.body.Body.{Body}
use Rattle.adr_objects.specs.declared.body.Body.TheVariants as body
use Rattle.adr_objects.specs.declared.body.EventBody.{EventBody}
use Rattle.adr_objects.specs.declared.kind.Kind.{Kind}
use Rattle.adr_objects.specs.declared.kind.Kind.TheVariants as kind
use Rattle.adr_state.specs.declared.base.Mark.{Mark}
use Rattle.adr_state.specs.declared.base.Mark.TheVariants.{Live, Dead}
use Rattle.adr_state.specs.declared.keys.FrozenKey.{FrozenKey}
use Rattle.adr_state.specs.declared.keys.MirrorKey.{MirrorKey}
use Rattle.adr_state.specs.declared.limits.Limits.{Limits}
use Rattle.adr_state.specs.declared.participants.Participant.{Participant}
use Rattle.adr_state.specs.declared.portfolio.Portfolio.{Portfolio}
use Rattle.adr_state.specs.declared.portfolio.Report.{Report}
use Rattle.adr_state.specs.declared.portfolio.Resource.{Resource}
use Rattle.adr_state.specs.declared.portfolio.Ven.{Ven}
use Rattle.adr_state.specs.BaseChanges.{ChangePortfolio, changed}
use Rattle.adr_state.specs.Frozen.{is_frozen, frozen_key, frozen_weight, is_of_event, frozen_row, pairs_kept, with_pairs, with_frozen}
use Rattle.adr_state.specs.Keys.{frozen_cmp}
use Rattle.adr_state.specs.Participants.{weight_by_share, weight_in, as_participant, participant_of, participants}
use Rattle.adr_state.specs.Portfolios.{PortfolioChange, Freeze, with_share, without_share}
use Rattle.adr_state.proofs.LawLemmas.{at-insert_entry, equal_from_is, key_order}
use Rattle.adr_view.specs.Frozen.{pairs_of, are_beyond, is_alike, freezing_differs, body_at, mark_differs, can_not_keep, frozen_with, frozen_as, freeze}
use Rattle.adr_view.specs.Laws.{LeavesWhoTakesPart, FreezingLeavesAll, FreezingKeepsWhoTakesPart, FrozenIsKept}
use Rattle.adr_view.specs.Rollups.{event_key, event_body, event_at, reporters, reports_of, rollup_for, rollup_of}
use Rattle.adr_view.specs.Views.{carries, rows_for, body_rows, mark_rows, report_row, rolled_up, event_of, rollup_rows, view}
use Rattle.adr_view.proofs.Common.{All-map, Base, Contains, Contains-from_lookup, IsDistinct-from_sorted, IsStrictlySortedBy, IsTotalOrder, at, eq_by_cmp_equiv, exact_bytes, exact_unsigned, id_cmp, insert_entry, is_at, is_eq, keys_of, map-map, map_of, mirror_cmp, nat_cmp, nat_cmp_total, tells_apart, view_cmp}
use Rattle.adr_view.proofs.KeyLemmas.{frozen_exact, mirror_exact}
use Rattle.adr_view.proofs.ListLemmas.{filter_map_same, flat_map_same, in_filter_map, in_map, none_of_all, none_passes, sorted_map}
use Rattle.adr_view.proofs.MapLemmas.{at-with_others, at-with_rows, or_none, tied}
use Rattle.adr_view.proofs.OrderLemmas.{InOrder}
use Rattle.adr_view.proofs.ReportedLemmas.{one_of_number, own_of}
use Rattle.adr_view.proofs.RowLemmas.{each_there}
use Rattle.adr_view.proofs.ShownLemmas.{by_number_rise}

pub frozen_total : IsTotalOrder frozen_cmp
frozen_total = then_total (on_total (λ (k : FrozenKey). k.event) nat_list_cmp_total) (on_total (λ (k : FrozenKey). k.resource) nat_cmp_total)

-- ---- the pairs of one event as rows

-- frozen shares of one event stand as their resources do
same_event : (id : List ℕ) (m n : ℕ) → frozen_cmp (frozen_key id m) (frozen_key id n) ≡ nat_cmp m n
same_event id m n = ap (λ (o : Ordering). ordering_then o (nat_cmp m n)) (tied_itself nat_list_cmp_total id)

frozen_keys : (id : List ℕ) (pairs : List (ℕ × ℕ)) → keys_of (map (frozen_row id) pairs) ≡ map (frozen_key id) (keys_of pairs)
frozen_keys id [] = refl
frozen_keys id (pair ∷ pairs) = ap (λ (ks : List FrozenKey). frozen_key id pair.0 ∷ ks) (frozen_keys id pairs)

rows_rise : (id : List ℕ) (pairs : List (ℕ × ℕ)) → InOrder nat_cmp pairs → InOrder frozen_cmp (map (frozen_row id) pairs)
rows_rise id pairs rise = subst (IsStrictlySortedBy frozen_cmp) (sym (frozen_keys id pairs)) (sorted_map nat_cmp frozen_cmp (frozen_key id) (λ m n less. same_event id m n ∙ less) (keys_of pairs) rise)

-- a weight is found among the rows as among the pairs
at-frozen_rows : (id : List ℕ) (n : ℕ) (pairs : List (ℕ × ℕ)) → at frozen_cmp (frozen_key id n) (map (frozen_row id) pairs) ≡ at nat_cmp n pairs
at-frozen_rows id n [] = refl
at-frozen_rows id n (pair ∷ pairs) = ap₂ (λ (o : Ordering) (rest : Option ℕ). cond (is_eq o) (Some pair.1) rest) (same_event id n pair.0) (at-frozen_rows id n pairs)

-- ---- an event that is frozen now

module _ (p : Portfolio) (id : List ℕ) (pairs : List (ℕ × ℕ)) where
  abbrev pub frozen_now : Portfolio
  frozen_now = record p { frozen = insert_entry id_cmp p.frozen id tt; frozen_shares = with_pairs id pairs p.frozen_shares }

  pub now_frozen : is_frozen p id ≡ false → with_frozen id pairs p ≡ frozen_now
  now_frozen fresh = ap (λ (b : Bool). cond b p frozen_now) fresh

  pub still_frozen : is_frozen p id ≡ true → with_frozen id pairs p ≡ p
  still_frozen frozen = ap (λ (b : Bool). cond b p frozen_now) frozen

  frozen_then : (other : List ℕ) → is_frozen frozen_now other ≡ is_some (cond (is_eq (id_cmp other id)) (Some tt) (at id_cmp other p.frozen))
  frozen_then other = ap is_some (at-insert_entry nat_list_cmp_total other id tt p.frozen)

  itself_frozen : is_frozen frozen_now id ≡ true
  itself_frozen = frozen_then id ∙ ap (λ (o : Ordering). is_some (cond (is_eq o) (Some tt) (at id_cmp id p.frozen))) (tied_itself nat_list_cmp_total id)

  abbrev kept_for_others : List (FrozenKey × ℕ)
  kept_for_others = filter (λ s. not (is_of_event id s)) p.frozen_shares

  -- ---- its own weights

  module _ (n : ℕ) where
    none_left : at frozen_cmp (frozen_key id n) kept_for_others ≡ None
    none_left = lookup-filter-keys (is_at (frozen_cmp (frozen_key id n))) (λ k. not (bytes_eq k.event id)) false (λ k is.
        let same : k.event ≡ id = ap (λ (j : FrozenKey). j.event) (sym (frozen_exact (frozen_key id n) k (equal_from_is _ is))) in
        ap not ((bytes_eq-Decides k.event id).1 same)) p.frozen_shares

    own_weight : InOrder nat_cmp pairs → frozen_weight frozen_now id n ≡ at nat_cmp n pairs
    own_weight rise =
        at-with_rows frozen_total (frozen_key id n) kept_for_others (map (frozen_row id) pairs) (rows_rise id pairs rise)
        ∙ ap₂ option_or (at-frozen_rows id n pairs) none_left ∙ or_none (at nat_cmp n pairs)

  -- ---- those of others

  module _ (other : List ℕ) (differ : other ≡ id → ⊥) where
    as_before : is_frozen frozen_now other ≡ is_frozen p other
    as_before = frozen_then other ∙ ap (λ (b : Bool). is_some (cond b (Some tt) (at id_cmp other p.frozen))) (false_from_ne_true (is_eq (id_cmp other id)) (λ is. differ (exact_bytes other id (equal_from_is _ is))))

    apart : (n m : ℕ) → is_eq (frozen_cmp (frozen_key other n) (frozen_key id m)) ≡ false
    apart n m = false_from_ne_true (is_eq (frozen_cmp (frozen_key other n) (frozen_key id m))) (λ is. differ (ap (λ (k : FrozenKey). k.event) (frozen_exact (frozen_key other n) (frozen_key id m) (equal_from_is _ is))))

    others_stay : (n : ℕ) → at frozen_cmp (frozen_key other n) kept_for_others ≡ frozen_weight p other n
    others_stay n = lookup-filter-keys (is_at (frozen_cmp (frozen_key other n))) (λ k. not (bytes_eq k.event id)) true (λ k is.
        let same : other ≡ k.event = ap (λ (j : FrozenKey). j.event) (frozen_exact (frozen_key other n) k (equal_from_is _ is)) in
        ap not (false_from_ne_true (bytes_eq k.event id) (λ yes. differ (same ∙ (bytes_eq-Decides k.event id).0 yes)))) p.frozen_shares

    other_weight : (n : ℕ) → frozen_weight frozen_now other n ≡ frozen_weight p other n
    other_weight n =
        at-with_others frozen_total (frozen_key other n) kept_for_others (map (frozen_row id) pairs)
        (All-map (λ r. is_eq (frozen_cmp (frozen_key other n) r.0) ≡ false) (frozen_row id) pairs (each_there (λ pair. is_eq (frozen_cmp (frozen_key other n) (frozen_key id pair.0)) ≡ false) pairs (λ pair there. apart n pair.0)))
        ∙ others_stay n

    weights_stay : (event : EventBody) (r : ℕ × Resource) → weight_in p other event r ≡ weight_in frozen_now other event r
    weights_stay event r = sym (ap₂ (λ (b : Bool) (weight : Option ℕ). cond b weight (weight_by_share p event r)) as_before (other_weight r.0))

    parts_stay : (event : EventBody) → participants p other event ≡ participants frozen_now other event
    parts_stay event = λ i. filter_map (λ (r : ℕ × Resource). option_and_then (as_participant p r) (weights_stay event r i)) p.resources

  -- freezing an event leaves who takes part in each other
  pub others_take_part : (other : List ℕ) → (other ≡ id → ⊥) → (event : EventBody) → participants p other event ≡ participants (with_frozen id pairs p) other event
  others_take_part other differ event = by (is_frozen p id) refl
    where
      by : (b : Bool) → is_frozen p id ≡ b → participants p other event ≡ participants (with_frozen id pairs p) other event
      by true is = sym (ap (λ (q : Portfolio). participants q other event) (still_frozen is))
      by false is = parts_stay other differ event ∙ sym (ap (λ (q : Portfolio). participants q other event) (now_frozen is))

-- ---- an event that is frozen with those who take part in it

-- one who takes part, by the weight and the ven that are found of a resource
abbrev pub participant_by : ℕ × Resource → Option ℕ → Option Ven → Option Participant
participant_by r weight ven = option_and_then (λ weight. option_map (λ ven. record { resource = r.0; weight = weight; name = r.1.name; ven_name = ven.name }) ven) weight

-- one who takes part is alike itself
alike_itself : (o : Option Participant) → is_alike o o ≡ true
alike_itself None = refl
alike_itself (Some x) = nat_eq_equiv.refl x.weight

-- and those of one resource that are alike are one
alike_is : (r : ℕ × Resource) (v w : Option ℕ) (ven : Option Ven) → is_alike (participant_by r v ven) (participant_by r w ven) ≡ true → participant_by r v ven ≡ participant_by r w ven
alike_is r None None ven alike = refl
alike_is r None (Some w) None alike = refl
alike_is r None (Some w) (Some ven) alike = absurd cc
alike_is r (Some v) None None alike = refl
alike_is r (Some v) None (Some ven) alike = absurd cc
alike_is r (Some v) (Some w) None alike = refl
alike_is r (Some v) (Some w) (Some ven) alike = ap (λ (weight : ℕ). participant_by r (Some weight) (Some ven)) (eqb-true v w alike)

-- one who takes part with a weight is made again of that weight
made_again : (r : ℕ × Resource) (weight : Option ℕ) (ven : Option Ven) → participant_by r (option_map (λ (x : Participant). x.weight) (participant_by r weight ven)) ven ≡ participant_by r weight ven
made_again r None ven = refl
made_again r (Some w) None = refl
made_again r (Some w) (Some v) = refl

not_false : (b : Bool) → not b ≡ false → b ≡ true
not_false true h = refl
not_false false h = absurd cc

module _ (p : Portfolio) (id : List ℕ) (event : EventBody) where
  abbrev differs : Portfolio → ℕ × Resource → Bool
  differs q r = not (is_alike (participant_of p id event r) (participant_of q id event r))

  -- where no one differs, all who take part stay
  pub all_stay : (pairs : List (ℕ × ℕ)) → freezing_differs id pairs p event ≡ false → participants p id event ≡ participants (with_frozen id pairs p) id event
  all_stay pairs none = by (is_frozen p id) refl
    where
      each : is_frozen p id ≡ false → (r : ℕ × Resource) → Contains p.resources r → participant_of p id event r ≡ participant_of (frozen_now p id pairs) id event r
      each fresh r there =
          let alike : is_alike (participant_of p id event r) (participant_of (with_frozen id pairs p) id event r) ≡ true = not_false _ (none_passes (differs (with_frozen id pairs p)) p.resources r none there) in
          alike_is r (weight_in p id event r) (weight_in (frozen_now p id pairs) id event r) (at nat_cmp r.1.ven p.vens)
          (subst (λ (q : Portfolio). is_alike (participant_of p id event r) (participant_of q id event r) ≡ true) (now_frozen p id pairs fresh) alike)

      by : (b : Bool) → is_frozen p id ≡ b → participants p id event ≡ participants (with_frozen id pairs p) id event
      by true frozen = sym (ap (λ (q : Portfolio). participants q id event) (still_frozen p id pairs frozen))
      by false fresh =
          filter_map_same (participant_of p id event) (participant_of (frozen_now p id pairs) id event) p.resources (each_there (λ r. participant_of p id event r ≡ participant_of (frozen_now p id pairs) id event r) p.resources (each fresh))
          ∙ sym (ap (λ (q : Portfolio). participants q id event) (now_frozen p id pairs fresh))

  -- where each takes part as before, no one differs
  none_differs : (pairs : List (ℕ × ℕ)) → ((r : ℕ × Resource) → Contains p.resources r → participant_of p id event r ≡ participant_of (with_frozen id pairs p) id event r) → freezing_differs id pairs p event ≡ false
  none_differs pairs same = none_of_all (differs (with_frozen id pairs p)) p.resources (each_there (λ r. differs (with_frozen id pairs p) r ≡ false) p.resources (λ r there.
      ap not (sym (ap (is_alike (participant_of p id event r)) (same r there)) ∙ alike_itself (participant_of p id event r))))

  pub still_alike : (pairs : List (ℕ × ℕ)) → is_frozen p id ≡ true → freezing_differs id pairs p event ≡ false
  still_alike pairs frozen = none_differs pairs (λ r there. sym (ap (λ (q : Portfolio). participant_of q id event r) (still_frozen p id pairs frozen)))

  -- where resources stand in order
  module _ (rise : IsStrictlySortedBy nat_cmp (keys_of p.resources)) where
    abbrev ps : List Participant
    ps = participants p id event

    abbrev own : List (ℕ × ℕ)
    own = pairs_of ps

    own_keys : keys_of own ≡ map (λ x. x.resource) ps
    own_keys = map-map (λ (e : ℕ × ℕ). e.0) (λ (x : Participant). (x.resource, x.weight)) ps

    own_rise : InOrder nat_cmp own
    own_rise = subst (IsStrictlySortedBy nat_cmp) (sym own_keys) (by_number_rise p rise id event)

    -- a participant's weight is that of its pair, and whoever takes no part has none
    pair_found : (r : ℕ × Resource) → Contains p.resources r → at nat_cmp r.0 own ≡ option_map (λ (x : Participant). x.weight) (participant_of p id event r)
    pair_found r there = by (participant_of p id event r) refl
      where
        known : at nat_cmp r.0 p.resources ≡ Some r.1
        known = lookup-from_Contains (eq_by_cmp_equiv nat_cmp_total) r.0 r.1 p.resources (IsDistinct-from_sorted nat_cmp (keys_of p.resources) rise) there

        none_of : participant_of p id event r ≡ None → (o : Option ℕ) → at nat_cmp r.0 own ≡ o → o ≡ None
        none_of is None found = refl
        none_of is (Some w) found =
            let numbers : Contains (map (λ (x : Participant). x.resource) ps) r.0 = subst (λ (ks : List ℕ). Contains ks r.0) own_keys (in_map (λ (e : ℕ × ℕ). e.0) own (r.0, w) (Contains-from_lookup (tells_apart exact_unsigned) r.0 w own found)) in
            let some : is_some (participant_of p id event r) ≡ true = one_of_number p rise id event r.0 r.1 known numbers in
            absurd (true≢false (sym some ∙ ap is_some is))

        by : (o : Option Participant) → participant_of p id event r ≡ o → at nat_cmp r.0 own ≡ option_map (λ (x : Participant). x.weight) o
        by None is = none_of is (at nat_cmp r.0 own) refl
        by (Some x) is =
            let pair : Contains own (x.resource, x.weight) = in_map (λ (x : Participant). (x.resource, x.weight)) ps x (in_filter_map (participant_of p id event) p.resources r x is there) in
            let found : at nat_cmp x.resource own ≡ Some x.weight = lookup-from_Contains (eq_by_cmp_equiv nat_cmp_total) x.resource x.weight own (IsDistinct-from_sorted nat_cmp (keys_of own) own_rise) pair in
            subst (λ (n : ℕ). at nat_cmp n own ≡ Some x.weight) (own_of p id event r x is).0 found

    own_weight_kept : (r : ℕ × Resource) → Contains p.resources r → weight_in (frozen_now p id own) id event r ≡ option_map (λ (x : Participant). x.weight) (participant_of p id event r)
    own_weight_kept r there =
        ap (λ (b : Bool). cond b (frozen_weight (frozen_now p id own) id r.0) (weight_by_share p event r)) (itself_frozen p id own)
        ∙ own_weight p id own r.0 own_rise ∙ pair_found r there

    own_part : is_frozen p id ≡ false → (r : ℕ × Resource) → Contains p.resources r → participant_of p id event r ≡ participant_of (with_frozen id own p) id event r
    own_part fresh r there =
        sym (ap (λ (weight : Option ℕ). participant_by r weight (at nat_cmp r.1.ven p.vens)) (own_weight_kept r there) ∙ made_again r (weight_in p id event r) (at nat_cmp r.1.ven p.vens))
        ∙ sym (ap (λ (q : Portfolio). participant_of q id event r) (now_frozen p id own fresh))

    own_alike : freezing_differs id own p event ≡ false
    own_alike = by (is_frozen p id) refl
      where
        by : (b : Bool) → is_frozen p id ≡ b → freezing_differs id own p event ≡ false
        by true frozen = still_alike own frozen
        by false fresh = none_differs own (own_part fresh)

-- ---- what is decided

-- what a mark says of an event is said at the event's key
said_there : (id : List ℕ) (e : MirrorKey × Mark) (event : EventBody) → body_at id e ≡ Some event → (e.0 ≡ event_key id) × (event_body (Some e.1) ≡ Some event)
said_there id e event = by (is_at (mirror_cmp (event_key id)) e.0) refl
  where
    by : (b : Bool) → is_at (mirror_cmp (event_key id)) e.0 ≡ b → cond b (event_body (Some e.1)) None ≡ Some event → (e.0 ≡ event_key id) × (event_body (Some e.1) ≡ Some event)
    by true is said = (sym (mirror_exact (event_key id) e.0 (equal_from_is _ is)), said)
    by false is said = absurd cc

said_of : (id : List ℕ) (e : MirrorKey × Mark) (event : EventBody) → e.0 ≡ event_key id → event_body (Some e.1) ≡ Some event → body_at id e ≡ Some event
said_of id e event is said = ap (λ (k : MirrorKey). cond (is_at (mirror_cmp (event_key id)) k) (event_body (Some e.1)) None) is ∙ ap (λ (b : Bool). cond b (event_body (Some e.1)) None) (tied key_order (event_key id)) ∙ said

-- where by the pairs no others take part in an event, as any mark says it
abbrev pub KeepsParts : List ℕ → List (ℕ × ℕ) → List (MirrorKey × Mark) → Portfolio → Type 0
KeepsParts id pairs mirror p = (e : MirrorKey × Mark) → Contains mirror e → (event : EventBody) → e.0 ≡ event_key id → event_body (Some e.1) ≡ Some event → freezing_differs id pairs p event ≡ false

keeps_parts : (id : List ℕ) (pairs : List (ℕ × ℕ)) (mirror : List (MirrorKey × Mark)) (p : Portfolio) → list_any (mark_differs id pairs p) mirror ≡ false → KeepsParts id pairs mirror p
keeps_parts id pairs mirror p none e there event is said = sym (ap (λ (o : Option EventBody). option_map_or (freezing_differs id pairs p) o false) (said_of id e event is said)) ∙ none_passes (mark_differs id pairs p) mirror e none there

-- whatever is decided of an event, it is frozen with pairs by which no others take part
pub frozen_so : (P : List (ℕ × ℕ) × PortfolioChange → Type 0) (limits : Limits) (id : List ℕ) (mirror : List (MirrorKey × Mark)) (p : Portfolio)
    → ((event : EventBody) → event_at mirror id ≡ Some event → (told pairs : List (ℕ × ℕ)) → KeepsParts id pairs mirror p → P (told, Freeze id pairs)) → IfOk (freeze limits id mirror p) P
frozen_so P limits id mirror p each = by_event (event_at mirror id) refl
  where
    or_parts : (a b : Bool) → (a || b) ≡ false → (a ≡ false) × (b ≡ false)
    or_parts true b h = absurd cc
    or_parts false b h = (refl, h)

    by_frozen : (event : EventBody) → event_at mirror id ≡ Some event → (b : Bool) → is_frozen p id ≡ b → IfOk (cond b (Ok (pairs_kept p id, Freeze id [])) (frozen_with limits id (pairs_of (participants p id event)) mirror p)) P
    by_frozen event is true frozen = each event is (pairs_kept p id) [] (λ e there body at said. still_alike p id body [] frozen)
    by_frozen event is false fresh =
        let own : List (ℕ × ℕ) = pairs_of (participants p id event) in
        cond_both (can_not_keep limits id own mirror p) (Err LimitReached) (Ok (own, Freeze id own)) (λ r. IfOk r P) (λ can_not. tt) (λ can. each event is own own (keeps_parts id own mirror p (or_parts (are_beyond limits p own) (list_any (mark_differs id own p) mirror) can).1))

    by_event : (o : Option EventBody) → event_at mirror id ≡ o → IfOk (or_else NotFound o >>= λ event. frozen_as limits id event mirror p) P
    by_event None is = tt
    by_event (Some event) is = by_frozen event is (is_frozen p id) refl

-- a live event is among the marks
pub live_mark : (id : List ℕ) (mirror : List (MirrorKey × Mark)) (event : EventBody) → event_at mirror id ≡ Some event → (mark : Mark) × Contains mirror (event_key id, mark) × (event_body (Some mark) ≡ Some event)
live_mark id mirror event = by (at mirror_cmp (event_key id) mirror) refl
  where
    by : (o : Option Mark) → at mirror_cmp (event_key id) mirror ≡ o → event_body o ≡ Some event → (mark : Mark) × Contains mirror (event_key id, mark) × (event_body (Some mark) ≡ Some event)
    by None found said = absurd cc
    by (Some mark) found said = (mark, Contains-from_lookup (tells_apart mirror_exact) (event_key id) mark mirror found, said)

-- by which no others take part in the event as it is live
pub keeps_live : (id : List ℕ) (pairs : List (ℕ × ℕ)) (mirror : List (MirrorKey × Mark)) (p : Portfolio) → KeepsParts id pairs mirror p → (event : EventBody) → event_at mirror id ≡ Some event → freezing_differs id pairs p event ≡ false
keeps_live id pairs mirror p keeps event is = let mark = live_mark id mirror event is in keeps (event_key id, mark.0) mark.1 event refl mark.2

-- an event that is said by a mark keeps who takes part, whichever it is
pub said_stays : (id : List ℕ) (pairs : List (ℕ × ℕ)) (mirror : List (MirrorKey × Mark)) (p : Portfolio) → KeepsParts id pairs mirror p → (other : List ℕ) (mark : Mark) → Contains mirror (event_key other, mark) → (event : EventBody) → event_body (Some mark) ≡ Some event
    → participants p other event ≡ participants (with_frozen id pairs p) other event
said_stays id pairs mirror p keeps other mark there event said = ⊎_elim
    (λ same_bytes.
    let same : other ≡ id = (bytes_eq-Decides other id).0 same_bytes in
    subst (λ (k : List ℕ). participants p k event ≡ participants (with_frozen id pairs p) k event) (sym same) (all_stay p id event pairs (keeps (event_key other, mark) there event (ap event_key same) said)))
    (λ differ. others_take_part p id pairs other (λ same. true≢false (sym ((bytes_eq-Decides other id).1 same) ∙ differ)) event)
    (cases_Bool (bytes_eq other id))

-- ---- what is shown

pub reports_as_before : (p : Portfolio) (id : List ℕ) (pairs : List (ℕ × ℕ)) → (with_frozen id pairs p).reports ≡ p.reports
reports_as_before p id pairs = by (is_frozen p id)
  where
    by : (b : Bool) → (cond b p (frozen_now p id pairs)).reports ≡ p.reports
    by true = refl
    by false = refl

module _ (base : Base) (id : List ℕ) (pairs : List (ℕ × ℕ)) (keeps : KeepsParts id pairs base.mirror base.portfolio) where
  abbrev q : Portfolio
  q = with_frozen id pairs base.portfolio

  abbrev after : Base
  after = record base { portfolio = q }

  mark_shown : (e : MirrorKey × Mark) → Contains base.mirror e → mark_rows base e ≡ mark_rows after e
  mark_shown (k, Dead) there = refl
  mark_shown (k, Live moment b) there = by k.kind k.id b there
    where
      by : (which : Kind) (other : List ℕ) (b : Body) → Contains base.mirror (record { kind = which; id = other }, Live moment b) → body_rows base which other b ≡ body_rows after which other b
      by kind.Program other (body.Program name) there = refl
      by kind.Program other (body.Event event) there = refl
      by kind.Program other (body.Opaque reason) there = refl
      by kind.Event other (body.Program name) there = refl
      by kind.Event other (body.Event event) there = ap (λ (ps : List Participant). cond (carries event) (rows_for other event ps) []) (said_stays id pairs base.mirror base.portfolio keeps other (Live moment (body.Event event)) there event refl)
      by kind.Event other (body.Opaque reason) there = refl

  rollup_shown : (e : MirrorKey × Mark) → Contains base.mirror e → rollup_rows base e ≡ rollup_rows after e
  rollup_shown (k, mark) there = by k.kind k.id (event_body (Some mark)) refl there
    where
      by : (which : Kind) (other : List ℕ) (o : Option EventBody) → event_body (Some mark) ≡ o → Contains base.mirror (record { kind = which; id = other }, mark)
          → rolled_up other (option_and_then (rollup_of base.portfolio other) (event_of which mark)) ≡ rolled_up other (option_and_then (rollup_of q other) (event_of which mark))
      by kind.Program other o said there = refl
      by kind.Event other None said there = rw said refl
      by kind.Event other (Some event) said there = rw said (ap₂ (λ (reports : List (ℕ × Report)) (ps : List Participant). rolled_up other (rollup_for event (reporters (reports_of other reports) ps))) (sym (reports_as_before base.portfolio id pairs)) (said_stays id pairs base.mirror base.portfolio keeps other mark there event said))

  shown_as_before : view base ≡ view after
  unfolding view
  shown_as_before = ap (map_of view_cmp) (λ i.
      flat_map_same (mark_rows base) (mark_rows after) base.mirror (each_there (λ e. mark_rows base e ≡ mark_rows after e) base.mirror mark_shown) i
      ++ map report_row (sym (reports_as_before base.portfolio id pairs) i)
      ++ flat_map_same (rollup_rows base) (rollup_rows after) base.mirror (each_there (λ e. rollup_rows base e ≡ rollup_rows after e) base.mirror rollup_shown) i)

-- ---- the laws

pub freezing_leaves : FreezingLeavesAll
freezing_leaves = record {
  who_takes_part = λ limits id base. frozen_so (λ d. LeavesWhoTakesPart base d.1) limits id base.mirror base.portfolio (λ event is told pairs keeps other body known.
      let mark = live_mark other base.mirror body known in
      said_stays id pairs base.mirror base.portfolio keeps other mark.0 mark.1 body mark.2);
  what_is_shown = λ limits id base. frozen_so (λ d. view base ≡ view (changed (ChangePortfolio d.1) base)) limits id base.mirror base.portfolio (λ event is told pairs keeps. shown_as_before base id pairs keeps);
}

pub freezing_keeps : FreezingKeepsWhoTakesPart
freezing_keeps base id event stands is = none_of_all (mark_differs id own base.portfolio) base.mirror (each_there (λ e. mark_differs id own base.portfolio e ≡ false) base.mirror (λ e there. one e there (body_at id e) refl))
  where
    own : List (ℕ × ℕ)
    own = pairs_of (participants base.portfolio id event)

    one : (e : MirrorKey × Mark) → Contains base.mirror e → (o : Option EventBody) → body_at id e ≡ o → option_map_or (freezing_differs id own base.portfolio) o false ≡ false
    one e there None said = refl
    one e there (Some body) said =
        let its = said_there id e body said in
        let found : at mirror_cmp e.0 base.mirror ≡ Some e.1 = lookup-from_Contains (eq_by_cmp_equiv key_order) e.0 e.1 base.mirror (IsDistinct-from_sorted mirror_cmp (keys_of base.mirror) stands.upstream_keys) there in
        let same : event ≡ body = same_Some event body (sym is ∙ ap event_body (ap (λ k. at mirror_cmp k base.mirror) (sym its.0) ∙ found) ∙ its.1) in
        subst (λ (b : EventBody). freezing_differs id own base.portfolio b ≡ false) same (own_alike base.portfolio id event stands.resources)

-- those who take part in a frozen event are made of the weights that are kept
abbrev pub those_kept : Portfolio → List ℕ → List Participant
those_kept p id = filter_map (λ (r : ℕ × Resource). option_and_then (as_participant p r) (frozen_weight p id r.0)) p.resources

pub take_part_as_kept : (p : Portfolio) (id : List ℕ) → is_frozen p id ≡ true → (event : EventBody) → participants p id event ≡ those_kept p id
take_part_as_kept p id frozen event = ap (λ (b : Bool). filter_map (λ (r : ℕ × Resource). option_and_then (as_participant p r) (cond b (frozen_weight p id r.0) (weight_by_share p event r))) p.resources) frozen

pub frozen_is_kept : FrozenIsKept
frozen_is_kept p id frozen = record {
  whatever_body = λ one other. take_part_as_kept p id frozen one ∙ sym (take_part_as_kept p id frozen other);
  whatever_share = λ key weight event. take_part_as_kept p id frozen event ∙ sym (take_part_as_kept (with_share key weight p) id frozen event);
  without_a_share = λ key event. take_part_as_kept p id frozen event ∙ sym (take_part_as_kept (without_share key p) id frozen event);
  frozen_again = λ pairs. still_frozen p id pairs frozen;
}
