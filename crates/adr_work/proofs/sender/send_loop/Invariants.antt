use Rattle.std.specs.Prelude.{false, is_some}
use Rattle.adr_lock.specs.Halting.{HaltsByStep}
use Rattle.adr_work.specs.Seats.{OnlyTakes}
use Rattle.adr_work.specs.Sending.{SendsTaken}
use Rattle.adr_work.proofs.sender.send_loop.Given as goal

abbrev pub invariant-loop : goal.invariant-loop
invariant-loop g l =
    (goal.iterator-loop g).can_next l.iterator' × (goal.iterator-loop g).is_finite l.iterator' × OnlyTakes l.fn.seat l.seat
    × SendsTaken l.peers l.fn.seat l.seat (g.G.Gate.exchanges l.fn.gate) (g.G.Gate.exchanges l.gate) l.fn.steps.items l.steps.items
    × HaltsByStep (is_some l.halt) false l.fn.steps.items l.steps.items
