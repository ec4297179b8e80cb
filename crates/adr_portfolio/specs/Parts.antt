-- What the participants of an event weigh.
use Rattle.std.specs.Prelude.{ℕ, List, map}
use Rattle.adr_state.specs.declared.participants.Participant.{Participant}

-- each by its number with its weight
abbrev pub parts_of : List Participant → List (ℕ × ℕ)
parts_of = map (λ p. (p.resource, p.weight))
