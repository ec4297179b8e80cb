-- Events whose participants and weights are kept against later edits of shares.
use Rattle.std.specs.Prelude.{ℕ, Bool, not, List, map, filter, Option, is_some, if◌then◌else◌}
use Rattle.std.specs.Str.{bytes_eq}
use Rattle.std.specs.BTreeMap.{insert_entry}
use Rattle.adr_state.specs.declared.portfolio.Portfolio.{Portfolio}
use Rattle.adr_state.specs.declared.keys.FrozenKey.{FrozenKey}
use Rattle.adr_state.specs.Keys.{id_cmp, frozen_cmp, at, with_rows}

-- whether the shares of an event are frozen
abbrev pub is_frozen : Portfolio → List ℕ → Bool
is_frozen p id = is_some (at id_cmp id p.frozen)

-- the key of a resource's share in a frozen event
abbrev pub frozen_key : List ℕ → ℕ → FrozenKey
frozen_key id n = record { event = id; resource = n }

-- the weight that is kept for a resource in an event, where there is one
abbrev pub frozen_weight : Portfolio → List ℕ → ℕ → Option ℕ
frozen_weight p id n = at frozen_cmp (frozen_key id n) p.frozen_shares

-- whether a frozen share is in this event
abbrev pub is_of_event : List ℕ → FrozenKey × ℕ → Bool
is_of_event id s = bytes_eq s.0.event id

-- a frozen share as a pair: the number of its resource, and its weight
abbrev pub pair_of : FrozenKey × ℕ → ℕ × ℕ
pair_of s = (s.0.resource, s.1)

-- the pairs that are kept for an event, in the order of the resources' numbers
abbrev pub pairs_kept : Portfolio → List ℕ → List (ℕ × ℕ)
pairs_kept p id = map pair_of (filter (is_of_event id) p.frozen_shares)

-- a pair as a frozen share in an event
abbrev pub frozen_row : List ℕ → ℕ × ℕ → FrozenKey × ℕ
frozen_row id pair = (frozen_key id pair.0, pair.1)

-- frozen shares with these pairs for an event, each in its place, and no others for it
abbrev pub with_pairs : List ℕ → List (ℕ × ℕ) → List (FrozenKey × ℕ) → List (FrozenKey × ℕ)
with_pairs id pairs shares = with_rows frozen_cmp (filter (λ s. not (is_of_event id s)) shares) (map (frozen_row id) pairs)

-- an event is frozen, and these pairs are what is kept for it; one that is frozen already stays as it is
abbrev pub with_frozen : List ℕ → List (ℕ × ℕ) → Portfolio → Portfolio
with_frozen id pairs p = if is_frozen p id then p else record p { frozen = insert_entry id_cmp p.frozen id tt; frozen_shares = with_pairs id pairs p.frozen_shares }
