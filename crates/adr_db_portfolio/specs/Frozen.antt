-- What the calls on frozen shares change of a portfolio.
use Rattle.std.specs.Prelude.{ℕ, not, List, filter}
use Rattle.std.specs.BTreeMap.{insert_entry}
use Rattle.adr_state.specs.declared.portfolio.Portfolio.{Portfolio}
use Rattle.adr_state.specs.declared.keys.FrozenKey.{FrozenKey}
use Rattle.adr_state.specs.Keys.{id_cmp, frozen_cmp}
use Rattle.adr_state.specs.Frozen.{is_of_event}

-- an event is one of those that are frozen
abbrev pub with_frozen_event : List ℕ → Portfolio → Portfolio
with_frozen_event id p = record p { frozen = insert_entry id_cmp p.frozen id tt }

-- a weight is kept for a resource in an event, in place of one that is there
abbrev pub with_frozen_share : FrozenKey → ℕ → Portfolio → Portfolio
with_frozen_share key weight p = record p { frozen_shares = insert_entry frozen_cmp p.frozen_shares key weight }

-- no weight is kept for an event
abbrev pub without_frozen_shares : List ℕ → Portfolio → Portfolio
without_frozen_shares id p = record p { frozen_shares = filter (λ s. not (is_of_event id s)) p.frozen_shares }
