-- What a report may be on is what the view has: both follow from the mark of the event and from who takes part in it.
use Rattle.std.proofs.Common.{◌≡◌, ℕ, Bool, true, false, cond, ◌&&◌, List, [], length, map, Option, Some, None, refl, sym, ap, subst, ◌∙◌, arith}
use Rattle.std.specs.Prelude.{IfSome, IsSome, is_some, option_map, option_and_then}
use Rattle.std.specs.List.{enumerate_from}
use Rattle.std.proofs.lemmas.Cmp.{nat_list_cmp_total, tied_itself}
use Rattle.std.proofs.lemmas.Map.Views.{lookup-from_Contains}
use Rattle.std.proofs.lemmas.Option.{same_Some, slice_get_read}
use Rattle.adr_view.proofs.Common.{Contains, keys_of, is_eq, nat_cmp, nat_cmp_total, eq_by_cmp_equiv, false≢true, exact_unsigned, tells_apart, Contains-from_lookup, IsDistinct-from_sorted, IsStrictlySortedBy, at, mirror_cmp, view_cmp, Base}
use Rattle.adr_objects.specs.declared.body.Body.TheVariants as body
use Rattle.adr_objects.specs.declared.body.EventBody.{EventBody}
use Rattle.adr_objects.specs.declared.shown.ShownEvent.{ShownEvent}
use Rattle.adr_state.specs.declared.base.Mark.{Mark}
use Rattle.adr_state.specs.declared.base.Mark.TheVariants.{Live, Dead}
use Rattle.adr_state.specs.declared.keys.ViewKey.{ViewKey}
use Rattle.adr_state.specs.declared.keys.ViewKey.TheVariants as key
use Rattle.adr_state.specs.declared.participants.Participant.{Participant}
use Rattle.adr_state.specs.declared.portfolio.Portfolio.{Portfolio}
use Rattle.adr_state.specs.declared.portfolio.Resource.{Resource}
use Rattle.adr_state.specs.declared.portfolio.Ven.{Ven}
use Rattle.adr_state.specs.Participants.{weight_in, participant_of, participants}
use Rattle.adr_view.specs.declared.report.Reported.{Reported}
use Rattle.adr_view.specs.declared.view.Content.{Content}
use Rattle.adr_view.specs.declared.view.Content.TheVariants as content
use Rattle.adr_view.specs.Laws.{StandsInOrder, is_key_of, IsOnShown, ReportsAreOnTheShown}
use Rattle.adr_view.specs.Reports.{reported_of, reported_by}
use Rattle.adr_view.specs.Rollups.{event_key, event_body}
use Rattle.adr_view.specs.Views.{weights_of, split_interval, interval_at, event_row, rows_for, carries, event_rows, rows_known, shown_of, view}
use Rattle.adr_view.proofs.KeyLemmas.{view_exact}
use Rattle.adr_view.proofs.ListLemmas.{in_map, from_map, in_filter, in_filter_map, from_filter_map, placed}
use Rattle.adr_view.proofs.RowLemmas.{from_filter}
use Rattle.adr_view.proofs.ShownLemmas.{view_total, shown_in_order, keys_shown, shown_is_of_view}

-- ---- who takes part

-- a participant is one of its resource
abbrev pub IsOf : ℕ × Resource → Participant → Type 0
IsOf r p = (p.resource ≡ r.0) × (p.name ≡ r.1.name)

its_own : (portfolio : Portfolio) (id : List ℕ) (event : EventBody) (r : ℕ × Resource) → IfSome (participant_of portfolio id event r) (IsOf r)
its_own portfolio id event r = by (weight_in portfolio id event r) (at nat_cmp r.1.ven portfolio.vens)
  where
    by : (weight : Option ℕ) (ven : Option Ven) → IfSome (option_and_then (λ (w : ℕ). option_map (λ (v : Ven). record { resource = r.0; weight = w; name = r.1.name; ven_name = v.name }) ven) weight) (IsOf r)
    by None ven = tt
    by (Some w) None = tt
    by (Some w) (Some v) = (refl, refl)

pub own_of : (portfolio : Portfolio) (id : List ℕ) (event : EventBody) (r : ℕ × Resource) (p : Participant) → participant_of portfolio id event r ≡ Some p → IsOf r p
own_of portfolio id event r p is = subst (λ o. IfSome o (IsOf r)) is (its_own portfolio id event r)

-- a resource is one of those who take part, where one of its number is
pub one_of_number : (portfolio : Portfolio) → IsStrictlySortedBy nat_cmp (keys_of portfolio.resources) → (id : List ℕ) (event : EventBody) (n : ℕ) (r : Resource) → at nat_cmp n portfolio.resources ≡ Some r → Contains (map (λ p. p.resource) (participants portfolio id event)) n
    → IsSome (participant_of portfolio id event (n, r))
one_of_number portfolio rise id event n r known there =
    let p = from_map (λ (p : Participant). p.resource) (participants portfolio id event) n there in
    let x = from_filter_map (participant_of portfolio id event) portfolio.resources p.0 p.1 in
    let number : x.0.0 ≡ n = sym (p.2 ∙ (own_of portfolio id event x.0 p.0 x.2).0) in
    let found : at nat_cmp x.0.0 portfolio.resources ≡ Some x.0.1 =
    lookup-from_Contains (eq_by_cmp_equiv nat_cmp_total) x.0.0 x.0.1 portfolio.resources (IsDistinct-from_sorted nat_cmp (keys_of portfolio.resources) rise) x.1 in
    let same : x.0.1 ≡ r = same_Some x.0.1 r (sym found ∙ ap (λ m. at nat_cmp m portfolio.resources) number ∙ known) in
    let whole : x.0 ≡ (n, r) = λ i. (number i, same i) in
    ap (λ o. is_some o) (sym (ap (participant_of portfolio id event) whole) ∙ x.2)

module _ (base : Base) (stands : StandsInOrder base) (id : List ℕ) where
  -- ---- the keys of the event in the view

  -- what is shown of it stands there
  stands_there : (n : ℕ) (c : Content) → Contains (shown_of base id) (key.Event id n, c) → at view_cmp (key.Event id n) (view base) ≡ Some c
  stands_there n c there =
      lookup-from_Contains (eq_by_cmp_equiv view_total) (key.Event id n) c (view base) (IsDistinct-from_sorted view_cmp (keys_of (view base)) (shown_in_order base))
      (from_filter (λ r. is_key_of id r.0) (view base) (key.Event id n, c) (subst (λ rows. Contains rows (key.Event id n, c)) (sym (shown_is_of_view base id stands)) there)).0

  -- and nothing else
  is_shown : (n : ℕ) (c : Content) → at view_cmp (key.Event id n) (view base) ≡ Some c → Contains (shown_of base id) (key.Event id n, c)
  is_shown n c found =
      let its : is_key_of id (key.Event id n) ≡ true = ap is_eq (tied_itself nat_list_cmp_total id) in
      subst (λ rows. Contains rows (key.Event id n, c)) (shown_is_of_view base id stands)
      (in_filter (λ r. is_key_of id r.0) (view base) (key.Event id n, c) its (Contains-from_lookup (tells_apart view_exact) (key.Event id n) c (view base) found))

  module _ (n : ℕ) (r : Resource) (known : at nat_cmp n base.portfolio.resources ≡ Some r) where
    -- ---- of an event

    module _ (event : EventBody) where
      abbrev ps : List Participant
      ps = participants base.portfolio id event

      abbrev row : ℕ × Participant → ViewKey × Content
      row = event_row id event (map (split_interval (weights_of ps)) event.intervals)

      -- the resource takes part, where it is a participant
      takes_part : (p : Participant) → participant_of base.portfolio id event (n, r) ≡ Some p → Contains ps p
      takes_part p is = in_filter_map (participant_of base.portfolio id event) base.portfolio.resources (n, r) p is (Contains-from_lookup (tells_apart exact_unsigned) n r base.portfolio.resources known)

      -- and is one, where one of its number takes part
      is_one : Contains (map (λ p. p.resource) ps) n → IsSome (participant_of base.portfolio id event (n, r))
      is_one = one_of_number base.portfolio stands.resources id event n r known

      -- what a participant is shown is among the rows
      its_row : (p : Participant) → Contains ps p → (k : ℕ) × Contains (rows_for id event ps) (row (k, p))
      its_row p there = (there.0, in_map row (enumerate_from 0 ps) (there.0, p) (placed ps there.0 p (slice_get_read ps (length ps) there.0 p refl there.1 (sym there.2))))

      -- and of each row one takes part
      its_number : (c : Content) → Contains (rows_for id event ps) (key.Event id n, c) → Contains (map (λ p. p.resource) ps) n
      its_number c there =
          let keys : Contains (map (λ k. key.Event id k) (map (λ p. p.resource) ps)) (key.Event id n) =
          subst (λ ks. Contains ks (key.Event id n)) (keys_shown id event (map (split_interval (weights_of ps)) event.intervals) 0 ps) (in_map (λ r. r.0) (rows_for id event ps) (key.Event id n, c) there) in
          let m = from_map (λ k. key.Event id k) (map (λ p. p.resource) ps) (key.Event id n) keys in
          let same : m.0 ≡ n = let is : key.Event id n ≡ key.Event id m.0 = m.2 in cc in
          subst (Contains (map (λ p. p.resource) ps)) same m.1

    -- rows show what a report is on
    abbrev HaveShown : List (ViewKey × Content) → Reported → Type 0
    HaveShown rows on = (shown : ShownEvent) × Contains rows (key.Event id n, content.Event shown) × IsOnShown id n shown on

    abbrev on_event : EventBody → Reported
    on_event event = record { event = id; program = event.program; resource = n; resource_name = r.name }

    event_shown : (event : EventBody) (on : Reported) → reported_of base.portfolio (n, r) id event ≡ Some on → HaveShown (event_rows base id event) on
    event_shown event on = by (carries event) (participant_of base.portfolio id event (n, r)) refl
      where
        by : (b : Bool) (o : Option Participant) → participant_of base.portfolio id event (n, r) ≡ o → cond (b && is_some o) (Some (on_event event)) None ≡ Some on → HaveShown (cond b (rows_for id event (ps event)) []) on
        by false o is h = absurd (cc)
        by true None is h = absurd (cc)
        by true (Some p) is h =
            let own : IsOf (n, r) p = own_of base.portfolio id event (n, r) p is in
            let there = its_row event p (takes_part event p is) in
            let its : on_event event ≡ on = same_Some (on_event event) on h in
            let shown : ShownEvent = record {
              program = event.program;
              name = event.name;
              priority = event.priority;
              period = event.period;
              intervals = map (interval_at there.0) (map (split_interval (weights_of (ps event))) event.intervals);
              ven_name = p.ven_name;
              resource_name = p.name;
            } in (
              shown,
              subst (λ m. Contains (rows_for id event (ps event)) (key.Event id m, content.Event shown)) own.0 there.1,
              record {
                same_event = sym (ap (λ (o : Reported). o.event) its);
                same_resource = sym (ap (λ (o : Reported). o.resource) its);
                same_program = sym (ap (λ (o : Reported). o.program) its);
                same_name = sym (ap (λ (o : Reported). o.resource_name) its) ∙ sym own.1;
              },
            )

    event_reported : (event : EventBody) (c : Content) → Contains (event_rows base id event) (key.Event id n, c) → IsSome (reported_of base.portfolio (n, r) id event)
    event_reported event c = by (carries event)
      where
        by : (b : Bool) → Contains (cond b (rows_for id event (ps event)) []) (key.Event id n, c) → IsSome (cond (b && is_some (participant_of base.portfolio id event (n, r))) (Some (on_event event)) None)
        by false there = absurd (omega (arith, there.1))
        by true there = let some : is_some (participant_of base.portfolio id event (n, r)) ≡ true = is_one event (its_number event c there) in rw some refl

    -- ---- of what is known of its key

    mark_shown : (mark : Option Mark) (on : Reported) → option_and_then (reported_of base.portfolio (n, r) id) (event_body mark) ≡ Some on → HaveShown (rows_known base (event_key id) mark) on
    mark_shown None on h = absurd (cc)
    mark_shown (Some Dead) on h = absurd (cc)
    mark_shown (Some (Live moment (body.Program name))) on h = absurd (cc)
    mark_shown (Some (Live moment (body.Event event))) on h = event_shown event on h
    mark_shown (Some (Live moment (body.Opaque reason))) on h = absurd (cc)

    mark_reported : (mark : Option Mark) (c : Content) → Contains (rows_known base (event_key id) mark) (key.Event id n, c) → IsSome (option_and_then (reported_of base.portfolio (n, r) id) (event_body mark))
    mark_reported None c there = absurd (omega (arith, there.1))
    mark_reported (Some Dead) c there = absurd (omega (arith, there.1))
    mark_reported (Some (Live moment (body.Program name))) c there = absurd (omega (arith, there.1))
    mark_reported (Some (Live moment (body.Event event))) c there = event_reported event c there
    mark_reported (Some (Live moment (body.Opaque reason))) c there = absurd (omega (arith, there.1))

    -- ---- the law

    abbrev mark_of : Option Mark
    mark_of = at mirror_cmp (event_key id) base.mirror

    reported_shown : (on : Reported) → reported_by base.mirror base.portfolio id (n, r) ≡ Some on → (shown : ShownEvent) × (at view_cmp (key.Event id n) (view base) ≡ Some (content.Event shown)) × IsOnShown id n shown on
    reported_shown on h = let is = mark_shown mark_of on h in (is.0, stands_there n (content.Event is.0) is.1, is.2)

    shown_reported : IsSome (at view_cmp (key.Event id n) (view base)) → IsSome (reported_by base.mirror base.portfolio id (n, r))
    shown_reported = by (at view_cmp (key.Event id n) (view base)) refl
      where
        by : (shown : Option Content) → at view_cmp (key.Event id n) (view base) ≡ shown → IsSome shown → IsSome (reported_by base.mirror base.portfolio id (n, r))
        by None found some = absurd (false≢true some)
        by (Some c) found some = mark_reported mark_of c (is_shown n c found)

pub reports_on_shown : ReportsAreOnTheShown
reports_on_shown base id n r stands known = record {
  what_is_reported_is_shown = reported_shown base stands id n r known;
  what_is_shown_is_reported = shown_reported base stands id n r known;
}
