-- What an edit of the portfolio touches, as calls on the tables answer it before the edit.
use Rattle.std.specs.Prelude.{ℕ, Bool, ◌==◌, List, map, filter, Option, Some, None, if◌then◌else◌}
use Rattle.std.specs.List.{Contains, filter_map}
use Rattle.adr_state.specs.declared.keys.MirrorKey.{MirrorKey}
use Rattle.adr_state.specs.declared.keys.FrozenKey.{FrozenKey}
use Rattle.adr_state.specs.declared.portfolio.Portfolio.{Portfolio}
use Rattle.adr_view.specs.Rollups.{event_key}
use Rattle.adr_refresh.specs.Touched.{live_in}
use Rattle.adr_db.specs.Kept.{Kept}

-- among these is each of those
abbrev pub HasEach : {A : Type 0} → List A → List A → Type 0
HasEach xs ys = (y : _) → Contains ys y → Contains xs y

-- among these upstream keys is that of each of these events
abbrev pub HasEvents : List MirrorKey → List (List ℕ) → Type 0
HasEvents keys ids = (id : List ℕ) → Contains ids id → Contains keys (event_key id)

-- the live events of programs that pass
abbrev pub live_events : (List ℕ → Bool) → Kept → List (List ℕ)
live_events passes kept = filter_map (live_in passes) kept.mirror

-- the programs in which a resource has a share
abbrev pub programs_of : ℕ → Portfolio → List (List ℕ)
programs_of n p = map (λ s. s.0.program) (filter (λ s. s.0.resource == n) p.shares)

-- the event in which a share of a resource that passes is frozen
abbrev pub frozen_by : (ℕ → Bool) → FrozenKey × ℕ → Option (List ℕ)
frozen_by passes s = if passes s.0.resource then Some s.0.event else None

-- the resources of a ven
abbrev pub resources_of : ℕ → Portfolio → List ℕ
resources_of ven p = map (λ r. r.0) (filter (λ r. r.1.ven == ven) p.resources)
