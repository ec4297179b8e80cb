-- What stands at the key of a resource among what is shown of an event is an event, and the resource is there.
use Rattle.std.proofs.Common.{◌≡◌, ℕ, List, [], map, Option, Some, None, refl, sym, ap, subst, ◌∙◌}
use Rattle.std.specs.Prelude.{IfSome, option_map, option_and_then}
use Rattle.std.specs.Ordering.{nat_cmp}
use Rattle.std.proofs.lemmas.Bool.{cond_both}
use Rattle.adr_objects.specs.declared.body.EventBody.{EventBody}
use Rattle.adr_state.specs.declared.base.Base.{Base}
use Rattle.adr_state.specs.declared.base.Mark.{Mark}
use Rattle.adr_state.specs.declared.keys.ViewKey.{ViewKey}
use Rattle.adr_state.specs.declared.keys.ViewKey.TheVariants as key
use Rattle.adr_state.specs.declared.participants.Participant.{Participant}
use Rattle.adr_state.specs.declared.portfolio.Resource.{Resource}
use Rattle.adr_state.specs.declared.portfolio.Ven.{Ven}
use Rattle.adr_state.specs.Participants.{weight_in, participant_of, participants}
use Rattle.adr_view.specs.declared.view.Content.{Content}
use Rattle.adr_view.specs.declared.view.Content.TheVariants as content
use Rattle.adr_view.specs.Laws.{StandsInOrder}
use Rattle.adr_view.specs.Rollups.{event_key}
use Rattle.adr_view.specs.Views.{split_interval, weights_of, rows_for, carries, event_rows, rows_known, shown_of}
use Rattle.adr_view.proofs.ListLemmas.{from_filter_map, from_map, in_map}
use Rattle.adr_view.proofs.ShownLemmas.{keys_shown}
use Rattle.adr_view.proofs.ViewLemmas.{by_mark, each_by_mark}
use Rattle.adr_refresh.proofs.Common.{All, All-contains, All-nil, Contains, Contains-from_lookup, at, equal_from_is, is_eq, mirror_cmp, nat_cmp_total, view_cmp, view_exact}
use Rattle.adr_refresh.proofs.MapLemmas.{found}

pub at_there : {V : Type 0} (q : ViewKey) (rows : List (ViewKey × V)) (v : V) → at view_cmp q rows ≡ Some v → Contains rows (q, v)
at_there q rows v is = Contains-from_lookup {eq = λ x y. is_eq (view_cmp x y)} (λ x y is. view_exact x y (equal_from_is _ is)) q v rows is

-- an event stands at a key of events
abbrev pub IsEventAt : ViewKey × Content → Type 0
IsEventAt (key.Event i n, content.Event e) = Unit {0}
IsEventAt (key.Event i n, c) = ⊥
IsEventAt _ = Unit {0}

module _ (base : Base) (stands : StandsInOrder base) where
  -- the resource of a number is there
  abbrev pub IsThere : ℕ → Type 0
  IsThere n = (r : Resource) × (at nat_cmp n base.portfolio.resources ≡ Some r)

  its_number : (id : List ℕ) (event : EventBody) (r : ℕ × Resource) → IfSome (participant_of base.portfolio id event r) (λ p. p.resource ≡ r.0)
  its_number id event r = by (weight_in base.portfolio id event r) (at nat_cmp r.1.ven base.portfolio.vens)
    where
      by : (weight : Option ℕ) (ven : Option Ven) → IfSome {T = Participant} (option_and_then (λ (w : ℕ). option_map (λ (v : Ven). record { resource = r.0; weight = w; name = r.1.name; ven_name = v.name }) ven) weight) (λ p. p.resource ≡ r.0)
      by None ven = tt
      by (Some w) None = tt
      by (Some w) (Some v) = refl

  participant_there : (id : List ℕ) (event : EventBody) (p : Participant) → Contains (participants base.portfolio id event) p → IsThere p.resource
  participant_there id event p there =
      let made = from_filter_map (participant_of base.portfolio id event) base.portfolio.resources p there in
      let r : ℕ × Resource = made.0 in
      let own : p.resource ≡ r.0 = subst (λ o. IfSome o (λ p. p.resource ≡ r.0)) made.2 (its_number id event r) in
      (r.1, ap (λ n. at nat_cmp n base.portfolio.resources) own ∙ found nat_cmp_total base.portfolio.resources r stands.resources made.1)

  shown_there : (id : List ℕ) (event : EventBody) (n : ℕ) (c : Content) → at view_cmp (key.Event id n) (event_rows base id event) ≡ Some c → IsThere n
  shown_there id event n c =
      let ps = participants base.portfolio id event in
      cond_both (carries event) (rows_for id event ps) [] (λ rows. at view_cmp (key.Event id n) rows ≡ Some c → IsThere n)
      (λ some is.
      let keyed : Contains (map (λ k. key.Event id k) (map (λ p. p.resource) ps)) (key.Event id n) =
      subst (λ keys. Contains keys (key.Event id n)) (keys_shown id event (map (split_interval (weights_of ps)) event.intervals) 0 ps) (in_map (λ r. r.0) (rows_for id event ps) (key.Event id n, c) (at_there (key.Event id n) (rows_for id event ps) c is)) in
      let of_number = from_map (λ k. key.Event id k) (map (λ p. p.resource) ps) (key.Event id n) keyed in
      let of_one = from_map (λ (p : Participant). p.resource) ps of_number.0 of_number.1 in
      let same : n ≡ of_number.0 = number_same of_number.2 in
      subst IsThere (sym (same ∙ of_one.2)) (participant_there id event of_one.0 of_one.1))
      (λ none is. absurd cc)
    where
      number_in : ViewKey → ℕ
      number_in (key.Event i m) = m
      number_in _ = 0

      number_same : {i j : List ℕ} {m k : ℕ} → key.Event i m ≡ key.Event j k → m ≡ k
      number_same is = ap number_in is

  pub resource_there : (id : List ℕ) (n : ℕ) (c : Content) → at view_cmp (key.Event id n) (shown_of base id) ≡ Some c → IsThere n
  resource_there id n c = known (at mirror_cmp (event_key id) base.mirror)
    where
      known : (o : Option Mark) → at view_cmp (key.Event id n) (rows_known base (event_key id) o) ≡ Some c → IsThere n
      known None is = absurd cc
      known (Some mark) is = by_mark base (λ k rows. at view_cmp (key.Event k.id n) rows ≡ Some c → IsThere n) (λ k none. absurd cc) (λ i name none. absurd cc) (λ i event is. shown_there i event n c is) (event_key id, mark) is

  pub events_shown : (id : List ℕ) → All IsEventAt (shown_of base id)
  events_shown id = known (at mirror_cmp (event_key id) base.mirror)
    where
      known : (o : Option Mark) → All IsEventAt (rows_known base (event_key id) o)
      known None = All-nil IsEventAt
      known (Some mark) = each_by_mark base (λ k r. IsEventAt r) (λ i name. tt) (λ i event splits p. tt) (event_key id, mark)

  pub event_there : (id : List ℕ) (n : ℕ) (c : Content) → at view_cmp (key.Event id n) (shown_of base id) ≡ Some c → IsEventAt (key.Event id n, c)
  event_there id n c is = All-contains IsEventAt (shown_of base id) (key.Event id n, c) (events_shown id) (at_there (key.Event id n) (shown_of base id) c is)
