-- The parts of an event that stand in what is shown.
use Rattle.std.specs.Prelude.{◌≡◌, ◌<◌, ℕ, ℤ, List, length, map, Option, None, Some, IsSome, option_and_then, slice_get}
use Rattle.std.specs.List.{Contains}
use Rattle.adr_split.specs.FairSplit.{sum_of_parts, IsFairSplit}
use Rattle.adr_objects.specs.declared.kind.Kind.TheVariants as kind
use Rattle.adr_objects.specs.declared.interval.Interval.{Interval}
use Rattle.adr_objects.specs.declared.body.EventBody.{EventBody}
use Rattle.adr_objects.specs.declared.body.Body.TheVariants as body
use Rattle.adr_state.specs.declared.base.Base.{Base}
use Rattle.adr_state.specs.declared.base.Mark.TheVariants.{Live}
use Rattle.adr_state.specs.declared.keys.ViewKey.{ViewKey}
use Rattle.adr_state.specs.declared.keys.ViewKey.TheVariants as key
use Rattle.adr_state.specs.Keys.{mirror_cmp, view_cmp, at}
use Rattle.adr_view.specs.declared.view.Content.{Content}
use Rattle.adr_view.specs.declared.view.Content.TheVariants as content
use Rattle.adr_view.specs.Views.{view}
use Rattle.adr_laws.specs.Enrolled.{enrolled, enrolled_numbers, enrolled_weights}

-- the part that an event shows in the interval at a place
abbrev pub part_in : ℕ → Content → Option ℤ
part_in place (content.Event shown) = option_and_then (λ i. i.part) (slice_get shown.intervals place)
part_in place _ = None

-- the part that a resource is shown of an event in the interval at a place, where it is shown one
abbrev pub part_shown : List (ViewKey × Content) → List ℕ → ℕ → ℕ → Option ℤ
part_shown shown id place resource = option_and_then (part_in place) (at view_cmp (key.Event id resource) shown)

-- each is shown a part; the parts sum to v, and are a fair split of it by the weights
pub record AreFairParts (v : ℤ) (weights : List ℕ) (shown : List (Option ℤ)) : Type 0 where
  pub parts : List ℤ
  pub each_is_shown : shown ≡ map (λ part. Some part) parts
  pub they_sum_up : sum_of_parts parts ≡ v
  pub they_are_fair : IsFairSplit v weights parts

-- an event is live upstream
abbrev pub IsLive : Base → List ℕ → EventBody → Type 0
IsLive base id event = (moment : ℕ) × (at mirror_cmp (record { kind = kind.Event; id = id }) base.mirror ≡ Some (Live moment (body.Event event)))

-- an event is shared out: the parts of a setpoint, one at the key of each that is enrolled, sum to it, where one is; an interval with no setpoint shows nobody a part; and nobody is shown the event who is not enrolled for it
pub record IsSharedOut (base : Base) (id : List ℕ) (event : EventBody) : Type 0 where
  pub parts_sum_up : (place : ℕ) (i : Interval) (v : ℤ) → slice_get event.intervals place ≡ Some i → i.setpoint ≡ Some v → 0 < length (enrolled base.portfolio id event)
      → AreFairParts v (enrolled_weights base.portfolio id event) (map (part_shown (view base) id place) (enrolled_numbers base.portfolio id event))
  pub no_part_without_setpoint : (place : ℕ) (i : Interval) (resource : ℕ) → slice_get event.intervals place ≡ Some i → i.setpoint ≡ None → part_shown (view base) id place resource ≡ None
  pub nobody_else_is_shown_it : (resource : ℕ) → IsSome (at view_cmp (key.Event id resource) (view base)) → Contains (enrolled_numbers base.portfolio id event) resource
