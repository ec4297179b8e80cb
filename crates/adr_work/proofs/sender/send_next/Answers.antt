use Rattle.std.proofs.Common.{is_some}
use Rattle.adr_lock.specs.Halting.{by_store}
use Rattle.adr_work.proofs.Delivering.{sends_none, sends_same}
use Rattle.adr_work.proofs.Halting.{halts_one}
use Rattle.adr_work.proofs.sender.send_next.Goals as goal

-- no job was there
pub returns-in_default-clause-sends : goal.returns-in_default-clause-sends
returns-in_default-clause-sends g c =
    let peers = c.args.peers.now in
    let seat = c.args.seat.now in
    let exchanges = g.G.Gate.exchanges c.args.gate.now in
    let steps = c.args.steps.now.items in
    sends_same peers seat seat c.take.new.seat exchanges exchanges steps steps (sends_none peers seat exchanges steps) c.in_default.ensures.taken

-- by what came of the settlement
pub returns-clause-halts : goal.returns-clause-halts
returns-clause-halts g c =
    halts_one (is_some c.args.halt) (by_store c.deliver-settled.result) c.halts.result c.args.steps.now.items c.deliver-settled.new.steps.items
    c.deliver-settled.ensures.ends c.halts.ensures
