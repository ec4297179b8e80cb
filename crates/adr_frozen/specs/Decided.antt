-- What is decided of an event that is to be frozen, once its mark was read; where rows stand in order it is what is decided of all.
use Rattle.std.specs.Prelude.{◌≡◌, ℕ, false, List, [], Result, Ok, Err, if◌then◌else◌}
use Rattle.adr_text.specs.declared.refusal.Refusal.{Refusal}
use Rattle.adr_text.specs.declared.refusal.Refusal.TheVariants.{LimitReached}
use Rattle.adr_objects.specs.declared.body.EventBody.{EventBody}
use Rattle.adr_state.specs.declared.limits.Limits.{Limits}
use Rattle.adr_state.specs.declared.portfolio.Portfolio.{Portfolio}
use Rattle.adr_state.specs.Frozen.{is_frozen, pairs_kept}
use Rattle.adr_state.specs.Participants.{participants}
use Rattle.adr_state.specs.Portfolios.{PortfolioChange, Freeze}
use Rattle.adr_view.specs.Frozen.{pairs_of, are_beyond}

-- an event is not frozen yet
abbrev pub IsFresh : List ℕ → Portfolio → Type 0
IsFresh id p = is_frozen p id ≡ false

-- an event is frozen with these pairs, and they are told: 10 where there is no room for them
abbrev pub frozen_within : Limits → List ℕ → List (ℕ × ℕ) → Portfolio → Result (List (ℕ × ℕ) × PortfolioChange) Refusal
frozen_within limits id pairs p = if are_beyond limits p pairs then Err LimitReached else Ok (pairs, Freeze id pairs)

-- so it is with the pairs of those who take part in it; of one that is frozen already the pairs that are kept are told
abbrev pub frozen_by : Limits → List ℕ → EventBody → Portfolio → Result (List (ℕ × ℕ) × PortfolioChange) Refusal
frozen_by limits id event p = if is_frozen p id then Ok (pairs_kept p id, Freeze id []) else frozen_within limits id (pairs_of (participants p id event)) p
