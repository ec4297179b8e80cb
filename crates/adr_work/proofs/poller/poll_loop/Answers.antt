use Rattle.std.proofs.Common.{false, is_some, sym, ◌∙◌}
use Rattle.adr_lock.specs.Halting.{by_store}
use Rattle.adr_work.proofs.Taking.{rounds_more}
use Rattle.adr_work.proofs.Halting.{halts_more}
use Rattle.adr_work.proofs.poller.poll_loop.Goals as goal

-- a round more
pub loop-preserved : goal.loop-preserved
loop-preserved g c = (
  tt,
  tt,
  rounds_more c.args.upstream.now (g.G.Gate.exchanges c.args.gate.now) (g.G.Gate.exchanges c.loop.gate) (g.G.Gate.exchanges c.poll_round-end.new.gate)
      c.args.steps.now.items c.loop.steps.items c.poll_round-end.new.steps.items c.poll_round-end.result c.loop.invariant.2 c.poll_round-end.ensures.round,
  halts_more (is_some c.args.halt) (by_store c.poll_round-end.result) false c.args.steps.now.items c.loop.steps.items c.poll_round-end.new.steps.items
      c.loop.invariant.3 c.poll_round-end.ensures.ends (sym c.if-halted.false ∙ c.halts-halted.ensures),
)

-- the last one, by which it halts
pub returns-then-halted-clause-rounds : goal.returns-then-halted-clause-rounds
returns-then-halted-clause-rounds g c =
    rounds_more c.args.upstream.now (g.G.Gate.exchanges c.args.gate.now) (g.G.Gate.exchanges c.loop.gate) (g.G.Gate.exchanges c.poll_round-end.new.gate)
    c.args.steps.now.items c.loop.steps.items c.poll_round-end.new.steps.items c.poll_round-end.result c.loop.invariant.2 c.poll_round-end.ensures.round

pub returns-then-halted-clause-halts : goal.returns-then-halted-clause-halts
returns-then-halted-clause-halts g c =
    halts_more (is_some c.args.halt) (by_store c.poll_round-end.result) c.halts-halted.result
    c.args.steps.now.items c.loop.steps.items c.poll_round-end.new.steps.items c.loop.invariant.3 c.poll_round-end.ensures.ends c.halts-halted.ensures

-- the last one, behind which it is told to stop
pub returns-then-is_stopped_within-clause-rounds : goal.returns-then-is_stopped_within-clause-rounds
returns-then-is_stopped_within-clause-rounds g c =
    rounds_more c.args.upstream.now (g.G.Gate.exchanges c.args.gate.now) (g.G.Gate.exchanges c.loop.gate) (g.G.Gate.exchanges c.poll_round-end.new.gate)
    c.args.steps.now.items c.loop.steps.items c.poll_round-end.new.steps.items c.poll_round-end.result c.loop.invariant.2 c.poll_round-end.ensures.round

pub returns-then-is_stopped_within-clause-halts : goal.returns-then-is_stopped_within-clause-halts
returns-then-is_stopped_within-clause-halts g c =
    halts_more (is_some c.args.halt) (by_store c.poll_round-end.result) c.halts-halted.result
    c.args.steps.now.items c.loop.steps.items c.poll_round-end.new.steps.items c.loop.invariant.3 c.poll_round-end.ensures.ends c.halts-halted.ensures
