use Rattle.std.specs.Prelude.{false, is_some}
use Rattle.adr_lock.specs.Halting.{HaltsByCall}
use Rattle.adr_work.specs.Leased.{OnlyLeases}
use Rattle.adr_work.specs.Seats.{OnlyPuts}
use Rattle.adr_work.proofs.dispatcher.dispatch_loop.Given as goal

abbrev pub invariant-loop : goal.invariant-loop
invariant-loop g l =
    (goal.iterator-loop g).can_next l.iterator' × (goal.iterator-loop g).is_finite l.iterator' × OnlyPuts l.fn.seat l.seat
    × OnlyLeases l.fn.steps.items l.steps.items × HaltsByCall (is_some l.halt) false l.fn.steps.items l.steps.items
