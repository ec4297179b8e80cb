-- Who takes part in an event: exactly those that are enrolled for it.
use Rattle.std.proofs.Common.{◌≡◌, ℕ, ◌≤◌, Bool, true, false, cond, List, map, Option, Some, None, refl, sym, ap, ◌∙◌}
use Rattle.std.specs.Prelude.{IsSome, IfSome, option_map}
use Rattle.adr_laws.proofs.Common.{All, All-map, All-weaker, IfSome-lookup_from_All, false≢true, is_at, keys_of, values_of, nat_cmp, Base, at, share_cmp, map-map}
use Rattle.adr_objects.specs.declared.body.EventBody.{EventBody}
use Rattle.adr_state.specs.declared.portfolio.Ven.{Ven}
use Rattle.adr_state.specs.declared.portfolio.Portfolio.{Portfolio}
use Rattle.adr_state.specs.declared.portfolio.Resource.{Resource}
use Rattle.adr_state.specs.declared.participants.Participant.{Participant}
use Rattle.adr_state.specs.Participants.{is_for, participant_of, participants}
use Rattle.adr_laws.specs.Enrolled.{weight_in, enrolled, enrolled_numbers, enrolled_weights}
use Rattle.adr_laws.specs.Laws.{HasVen, IsWhole, HasWeight, HasFrozenWeight, ParticipantsLackNone}
use Rattle.adr_state.specs.Frozen.{is_frozen}
use Rattle.adr_state.specs.Keys.{frozen_cmp}
use Rattle.adr_view.proofs.FrozenLemmas.{participant_by}
use Rattle.adr_view.proofs.ListLemmas.{all_filter_map, map_filter_map}

-- a number with its weight
abbrev pub numbered : Participant → ℕ × ℕ
numbered p = (p.resource, p.weight)

abbrev with_number : ℕ → Option ℕ → Option (ℕ × ℕ)
with_number n weight = option_map (λ w. (n, w)) weight

-- a resource that has its ven takes part exactly where it is enrolled
takes_part : (r : ℕ × Resource) (weight : Option ℕ) (ven : Option Ven) → IsSome ven → option_map numbered (participant_by r weight ven) ≡ with_number r.0 weight
takes_part r (Some w) (Some v) has = refl
takes_part r (Some w) None has = absurd (false≢true has)
takes_part r None ven has = refl

pub lack_none : ParticipantsLackNone
lack_none base id event whole =
    let p : Portfolio = base.portfolio in
    let same : ℕ × Resource → Type 0 = λ r. option_map numbered (participant_of p id event r) ≡ with_number r.0 (weight_in p id event r) in
    map_filter_map (participant_of p id event) numbered (λ r. with_number r.0 (weight_in p id event r)) p.resources
    (All-weaker (HasVen p.vens) same (λ r has. takes_part r (weight_in p id event r) (at nat_cmp r.1.ven p.vens) has) p.resources whole.resources_have_vens)

module _ (base : Base) (id : List ℕ) (event : EventBody) where
  module _ (whole : IsWhole base) where
    pub numbers_are : map (λ p. p.resource) (participants base.portfolio id event) ≡ enrolled_numbers base.portfolio id event
    numbers_are = sym (map-map (λ (e : ℕ × ℕ). e.0) numbered (participants base.portfolio id event)) ∙ ap keys_of (lack_none base id event whole)

    pub weights_are : map (λ p. p.weight) (participants base.portfolio id event) ≡ enrolled_weights base.portfolio id event
    weights_are = sym (map-map (λ (e : ℕ × ℕ). e.1) numbered (participants base.portfolio id event)) ∙ ap values_of (lack_none base id event whole)

    -- each with a weight that is at least 1
    pub enrolled_positive : All (λ w. 1 ≤ w) (enrolled_weights base.portfolio id event)
    enrolled_positive =
        let p : Portfolio = base.portfolio in
        let shares : All (λ w. 1 ≤ w) (values_of p.shares) = All-map (λ w. 1 ≤ w) (λ s. s.1) p.shares (All-weaker HasWeight (λ s. 1 ≤ s.1) (λ s h. h.0) p.shares whole.shares_have_weights) in
        let kept : All (λ w. 1 ≤ w) (values_of p.frozen_shares) = All-map (λ w. 1 ≤ w) (λ s. s.1) p.frozen_shares (All-weaker HasFrozenWeight (λ s. 1 ≤ s.1) (λ s h. h.0) p.frozen_shares whole.frozen_have_weights) in
        All-map (λ w. 1 ≤ w) (λ e. e.1) (enrolled p id event)
        (all_filter_map (λ r. with_number r.0 (weight_in p id event r)) (λ r. Unit {0}) (λ e. 1 ≤ e.1)
        (λ r any. one r.0 (is_frozen p id) (is_for event.resource_names r.1.name) _ _ (IfSome-lookup_from_All (λ w. 1 ≤ w) (is_at (frozen_cmp (record { event = id; resource = r.0 }))) p.frozen_shares kept)
        (IfSome-lookup_from_All (λ w. 1 ≤ w) (is_at (share_cmp (record { program = event.program; resource = r.0 }))) p.shares shares)) p.resources (λ i d l. tt))
      where
        some : (n : ℕ) (weight : Option ℕ) → IfSome weight (λ w. 1 ≤ w) → IfSome (with_number n weight) (λ e. 1 ≤ e.1)
        some n None h = tt
        some n (Some w) h = h

        one : (n : ℕ) (frozen is_its : Bool) (kept share : Option ℕ) → IfSome kept (λ w. 1 ≤ w) → IfSome share (λ w. 1 ≤ w) → IfSome (with_number n (cond frozen kept (cond is_its share None))) (λ e. 1 ≤ e.1)
        one n true is_its kept share h g = some n kept h
        one n false true kept share h g = some n share g
        one n false false kept share h g = tt
