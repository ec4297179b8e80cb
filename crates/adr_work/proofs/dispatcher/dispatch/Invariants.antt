use Rattle.std.specs.Prelude.{false}
use Rattle.adr_lock.specs.Halting.{EndsByStore}
use Rattle.adr_work.specs.Leased.{OnlyLeases}
use Rattle.adr_work.specs.Seats.{OnlyPuts}
use Rattle.adr_work.proofs.dispatcher.dispatch.Given as goal

abbrev pub invariant-loop : goal.invariant-loop
invariant-loop g l =
    (goal.iterator-loop g).can_next l.iterator' × (goal.iterator-loop g).is_finite l.iterator' × OnlyPuts l.fn.seat l.seat
    × OnlyLeases l.fn.steps.items l.steps.items × EndsByStore false l.fn.steps.items l.steps.items
