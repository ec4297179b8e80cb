-- Who shares in a program, and whose weight is kept for an event, as the tables keep it.
use Rattle.std.specs.Prelude.{ℕ, Bool, List, Option, option_and_then, filter}
use Rattle.std.specs.List.{filter_map}
use Rattle.std.specs.Ordering.{nat_cmp, is_eq}
use Rattle.adr_state.specs.declared.keys.ShareKey.{ShareKey}
use Rattle.adr_state.specs.declared.participants.Participant.{Participant}
use Rattle.adr_state.specs.Keys.{id_cmp, at}
use Rattle.adr_state.specs.declared.keys.FrozenKey.{FrozenKey}
use Rattle.adr_state.specs.Participants.{is_for, as_participant}
use Rattle.adr_db.specs.Kept.{Kept}

-- whether a share is one in the program
abbrev pub is_in : List ℕ → ShareKey × ℕ → Bool
is_in program share = is_eq (id_cmp program share.0.program)

-- the resource of a number, with a weight, its name and its ven's, where both are there
abbrev pub weighted : Kept → ℕ → ℕ → Option Participant
weighted kept n weight = option_and_then (λ resource. as_participant kept.portfolio (n, resource) weight) (at nat_cmp n kept.portfolio.resources)

-- so that of a share
abbrev pub sharer : Kept → ShareKey × ℕ → Option Participant
sharer kept share = weighted kept share.0.resource share.1

-- those with a share in the program, in the order of its shares
abbrev pub sharers : List ℕ → Kept → List Participant
sharers program kept = filter_map (sharer kept) (filter (is_in program) kept.portfolio.shares)

-- whether a frozen share is kept for the event
abbrev pub is_kept_for : List ℕ → FrozenKey × ℕ → Bool
is_kept_for event share = is_eq (id_cmp event share.0.event)

-- the resource of a frozen share
abbrev pub frozen_sharer : Kept → FrozenKey × ℕ → Option Participant
frozen_sharer kept share = weighted kept share.0.resource share.1

-- those for whom a weight is kept for the event, in the order of what is kept
abbrev pub frozen_sharers : List ℕ → Kept → List Participant
frozen_sharers event kept = filter_map (frozen_sharer kept) (filter (is_kept_for event) kept.portfolio.frozen_shares)

-- those for whose names an event with these resource names, if any, is
abbrev pub those_for : Option (List (List ℕ)) → List Participant → List Participant
those_for names = filter (λ p. is_for names p.name)
