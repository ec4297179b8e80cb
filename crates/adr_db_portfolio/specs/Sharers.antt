-- Who shares in a program, as far as the types of what is kept admit.
use Rattle.std.specs.Prelude.{◌≤◌, List, length}
use Rattle.std.specs.List.{AllByRecursion}
use Rattle.adr_state.specs.declared.participants.Participant.{Participant}
use Rattle.adr_state.specs.Weights.{most_resources}
use Rattle.adr_db.specs.Admitted.{IsParticipant}

-- those who share in a program: a node has 10,000 resources at most, so no more of them share in one program
abbrev pub AreSharers : List Participant → Type 0
AreSharers ps = (length ps ≤ most_resources) × AllByRecursion IsParticipant ps
