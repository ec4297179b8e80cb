-- Shares of resources in programs, and what is decided of them.
use Rattle.std.specs.Prelude.{ℕ, ◌==◌, nat_lt, ◌&&◌, Bool, is_none, List, Result, Ok, Err, if◌then◌else◌}
use Rattle.adr_text.specs.Refusals.{◌>>=◌, or_else}
use Rattle.adr_text.specs.declared.refusal.Refusal.{Refusal}
use Rattle.adr_text.specs.declared.refusal.Refusal.TheVariants.{NotFound, BadShare, LimitReached}
use Rattle.adr_objects.specs.declared.shown.ShareObject.{ShareObject}
use Rattle.adr_state.specs.declared.portfolio.Portfolio.{Portfolio}
use Rattle.adr_state.specs.declared.keys.ShareKey.{ShareKey}
use Rattle.adr_state.specs.declared.limits.Limits.{Limits}
use Rattle.adr_state.specs.Keys.{share_cmp, at}
use Rattle.adr_state.specs.Names.{is_full}
use Rattle.adr_state.specs.Resources.{resource_at}
use Rattle.adr_state.specs.Weights.{most_weight}
use Rattle.adr_state.specs.Portfolios.{PortfolioChange, PutShare, DropShare}

-- a share as it is told: its program, its resource's number and its weight
abbrev pub share_object : ShareKey × ℕ → ShareObject
share_object s = record { program = s.0.program; resource = s.0.resource; share = s.1 }

-- whether a share is new, and there is no room for it
abbrev pub is_beyond : Limits → ShareKey → List (ShareKey × ℕ) → Bool
is_beyond limits key shares = is_none (at share_cmp key shares) && is_full limits.shares shares

-- a weight of 0 removes the share
abbrev pub weight_set : Limits → ShareKey → ℕ → Portfolio → Result PortfolioChange Refusal
weight_set limits key weight p = if weight == 0 then Ok (DropShare key) else (if is_beyond limits key p.shares then Err LimitReached else Ok (PutShare key weight))

-- the share of a resource in a program is set, and answered: a weight above 1,000,000 is 9, and 10 where it is new
-- and there are as many as may be
abbrev pub share_of : Limits → ShareKey → ℕ → Portfolio → Result (ShareObject × PortfolioChange) Refusal
share_of limits key weight p = if nat_lt most_weight weight then Err BadShare else weight_set limits key weight p >>= λ change. Ok (share_object (key, weight), change)

-- the share of the resource of an id in a program is set, or with a weight of 0 removed, and answered: a resource
-- that isn't there is 6
abbrev pub share_set : Limits → List ℕ → List ℕ → ℕ → Portfolio → Result (ShareObject × PortfolioChange) Refusal
share_set limits program resource weight p = or_else NotFound (resource_at resource p) >>= λ n. share_of limits (record { program = program; resource = n }) weight p
