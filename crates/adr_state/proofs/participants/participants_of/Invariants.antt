use Rattle.std.proofs.Common.{◌≡◌, ◌+◌, ◌≤◌, ◌++◌, length}
use Rattle.std.specs.List.{filter_map}
use Rattle.adr_state.specs.Participants.{participant_of, participants}
use Rattle.adr_state.proofs.participants.participants_of.Given as goal

-- those found so far and those among the resources that are left
abbrev pub invariant-loop-number : goal.invariant-loop-number
invariant-loop-number l = record {
  so_far : l.all.items ++ filter_map (participant_of l.portfolio l.id l.event) l.number-iterator ≡ participants l.portfolio l.id l.event;
  few : length l.all.items + length l.number-iterator ≤ length l.portfolio.resources;
}
