-- What is told of a frozen event.
use Rattle.std.specs.Prelude.{ℕ, List, Result, Ok, Err, if◌then◌else◌}
use Rattle.adr_text.specs.Refusals.{◌>>=◌}
use Rattle.adr_text.specs.declared.refusal.Refusal.{Refusal}
use Rattle.adr_text.specs.declared.refusal.Refusal.TheVariants.{Forbidden}
use Rattle.adr_objects.specs.declared.shown.FrozenObject.{FrozenObject}
use Rattle.adr_state.specs.declared.base.Base.{Base}
use Rattle.adr_view.specs.Frozen.{frozen_pairs}
use Rattle.adr_queries.specs.declared.role.Role.{Role}
use Rattle.adr_queries.specs.declared.answer.Answer.{Answer}
use Rattle.adr_queries.specs.declared.answer.Answer.TheVariants as answer
use Rattle.adr_queries.specs.Roles.{is_operator}

-- the pairs that are kept for an event, as they are told: behind its id
abbrev pub frozen_object : List ℕ → List (ℕ × ℕ) → FrozenObject
frozen_object event pairs = record { event = event; shares = pairs }

-- what is kept for an event, live or not: only the operator sees it, and one that was never frozen is 6
abbrev pub frozen_reply : Base → Role → List ℕ → Result Answer Refusal
frozen_reply base role event = if is_operator role then (frozen_pairs event base.portfolio >>= λ pairs. Ok (answer.Frozen (frozen_object event pairs))) else Err Forbidden
