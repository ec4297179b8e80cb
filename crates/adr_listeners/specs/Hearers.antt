-- Which subscriptions may hear of a change.
use Rattle.std.specs.Prelude.{◌==◌, ℕ, Bool, true, false, List, filter}
use Rattle.std.specs.Option.{option_map_or}
use Rattle.adr_subscription.specs.declared.kept_sub.Sub.{Sub}
use Rattle.adr_listeners.specs.declared.hearers.Hearers.{Hearers}
use Rattle.adr_listeners.specs.declared.hearers.Hearers.TheVariants.{Nobody, Of, Everyone}

-- whether a subscription is the operator's
abbrev pub is_operators : Sub → Bool
is_operators sub = option_map_or (λ owner. false) sub.owner true

-- whether it may hear of a change: the operator's hear of each that somebody hears of
abbrev pub hears : Hearers → Sub → Bool
hears Nobody sub = false
hears (Of ven) sub = option_map_or (λ owner. owner == ven) sub.owner true
hears Everyone sub = true

-- the subscriptions that may hear of it
abbrev pub heard_by : Hearers → List (ℕ × Sub) → List (ℕ × Sub)
heard_by hearers subs = filter (λ s. hears hearers s.1) subs
