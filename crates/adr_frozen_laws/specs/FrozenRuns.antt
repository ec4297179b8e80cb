-- Events that are frozen, over whole runs.
use Rattle.std.specs.Prelude.{◌≡◌, ℕ, Bool, true, List, ◌∷◌, ◌++◌, map, Option, None, Ok, option_map, is_some, if◌then◌else◌}
use Rattle.std.specs.List.{filter_map}
use Rattle.std.specs.Ordering.{nat_cmp}
use Rattle.adr_objects.specs.declared.body.EventBody.{EventBody}
use Rattle.adr_objects.specs.declared.shown.FrozenObject.{FrozenObject}
use Rattle.adr_state.specs.declared.limits.Settings.{Settings}
use Rattle.adr_state.specs.declared.portfolio.Portfolio.{Portfolio}
use Rattle.adr_state.specs.declared.state.State.{State}
use Rattle.adr_state.specs.Frozen.{is_frozen, frozen_weight}
use Rattle.adr_state.specs.Keys.{at}
use Rattle.adr_state.specs.Participants.{participants}
use Rattle.adr_queries.specs.declared.answer.Answer.TheVariants as answer
use Rattle.adr_queries.specs.declared.role.Role.{Role}
use Rattle.adr_machine.specs.declared.command.Command.{Command}
use Rattle.adr_machine.specs.declared.command.Command.TheVariants.{Freeze}
use Rattle.adr_machine.specs.Steps.{step}
use Rattle.adr_laws.specs.Entries.{reached}

-- whether a resource is there
abbrev pub is_there : Portfolio → ℕ → Bool
is_there p n = is_some (at nat_cmp n p.resources)

-- an event that was frozen is so still; for each resource that is there that weight is kept that was kept for it before, if any, and none for any other
pub record StaysFrozen (before after : Portfolio) (id : List ℕ) : Type 0 where
  pub frozen : is_frozen after id ≡ true
  pub weights : (n : ℕ) → frozen_weight after id n ≡ (if is_there after n then frozen_weight before id n else None)

-- after any run from an empty start, whatever commands follow, each event that was frozen then stays so
abbrev pub FrozenStay : Type 0
FrozenStay = (settings : Settings) (cs more : List (ℕ × Command)) (id : List ℕ) → is_frozen (reached settings cs).base.portfolio id ≡ true
    → StaysFrozen (reached settings cs).base.portfolio (reached settings (cs ++ more)).base.portfolio id

-- the resources that are there and have a weight by this, in the order of their numbers, each with it
abbrev pub weighed : Portfolio → (ℕ → Option ℕ) → List (ℕ × ℕ)
weighed p weight_of = filter_map (λ r. option_map (λ weight. (r.0, weight)) (weight_of r.0)) p.resources

-- after any run from an empty start, who takes part in an event that is frozen are those for whom a weight is kept, each with it, whatever the event says
abbrev pub KeptTakePart : Type 0
KeptTakePart = (settings : Settings) (cs : List (ℕ × Command)) (id : List ℕ) (event : EventBody) → is_frozen (reached settings cs).base.portfolio id ≡ true
    → map (λ p. (p.resource, p.weight)) (participants (reached settings cs).base.portfolio id event) ≡ weighed (reached settings cs).base.portfolio (frozen_weight (reached settings cs).base.portfolio id)

-- a command that freezes an event was accepted, after a run, and told this
abbrev pub WasFrozen : Settings → List (ℕ × Command) → ℕ → Role → List ℕ → FrozenObject → Type 0
WasFrozen settings cs now role id told = (next : State) × (step settings (reached settings cs) now (Freeze role id) ≡ Ok (answer.Frozen told, next))

-- from then on, whatever commands follow, who takes part in the event are the pairs that were told whose resources are there, whatever the event says
abbrev pub FreezesAreKept : Type 0
FreezesAreKept = (settings : Settings) (cs more : List (ℕ × Command)) (now : ℕ) (role : Role) (id : List ℕ) (told : FrozenObject) (event : EventBody) → WasFrozen settings cs now role id told
    → map (λ p. (p.resource, p.weight)) (participants (reached settings (cs ++ (now, Freeze role id) ∷ more)).base.portfolio id event)
    ≡ weighed (reached settings (cs ++ (now, Freeze role id) ∷ more)).base.portfolio (λ n. at nat_cmp n told.shares)
