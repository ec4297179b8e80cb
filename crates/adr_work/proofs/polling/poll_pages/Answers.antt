use Rattle.std.proofs.Common.{false, refl, arith}
use Rattle.adr_lock.specs.Halting.{is_stores}
use Rattle.adr_work.proofs.Halting.{ends_none, ends_more, ends_handed, ends_memory}
use Rattle.adr_work.proofs.Paging.{sofar_none, sofar_more, paged_cut, paged_whole, paged_broken, paged_full}
use Rattle.adr_work.proofs.polling.poll_pages.Goals as goal

pub loop-i-init : goal.loop-i-init
loop-i-init g c = record {
  so_far = sofar_none c.args.upstream.now c.args.kind (g.G.Gate.exchanges c.args.gate.now) (g.T.Teller.memory c.args.teller.now);
  ends = ends_none (g.T.Teller.steps c.args.teller.now);
}

pub returns-in_err-command-clause-round : goal.returns-in_err-command-clause-round
returns-in_err-command-clause-round g c =
    paged_cut c.args.upstream.now c.args.kind (g.G.Gate.exchanges c.args.gate.now) (g.G.Gate.exchanges c.loop-i.gate) (g.G.Gate.exchanges c.ask_page.new.gate)
    (g.T.Teller.memory c.args.teller.now) (g.T.Teller.memory c.loop-i.teller) (g.T.Teller.memory c.loop-i.teller) c.loop-i._i c.loop-i.skip
    _ c.from_residual.result c.loop-i.invariant.so_far c.in_err-command.ensures.page refl c.from_residual.ensures.0

pub returns-in-Empty-clause-round : goal.returns-in-Empty-clause-round
returns-in-Empty-clause-round g c =
    paged_whole c.args.upstream.now c.args.kind (g.G.Gate.exchanges c.args.gate.now) (g.G.Gate.exchanges c.loop-i.gate) (g.G.Gate.exchanges c.ask_page.new.gate)
    (g.T.Teller.memory c.args.teller.now) (g.T.Teller.memory c.loop-i.teller) c.loop-i._i c.loop-i.skip
    c.in_ok-command.field-0 c.loop-i.invariant.so_far c.loop-i-test.true c.in_ok-command.ensures.page c.in-Empty.is

pub returns-in-Failed-clause-round : goal.returns-in-Failed-clause-round
returns-in-Failed-clause-round g c =
    paged_broken c.args.upstream.now c.args.kind (g.G.Gate.exchanges c.args.gate.now) (g.G.Gate.exchanges c.loop-i.gate) (g.G.Gate.exchanges c.ask_page.new.gate)
    (g.T.Teller.memory c.args.teller.now) (g.T.Teller.memory c.loop-i.teller) c.loop-i._i c.loop-i.skip
    c.in_ok-command.field-0 c.loop-i.invariant.so_far c.loop-i-test.true c.in_ok-command.ensures.page c.in-Failed.is

pub loop-i-preserved : goal.loop-i-preserved
loop-i-preserved g c = record {
  so_far =
      sofar_more c.args.upstream.now c.args.kind (g.G.Gate.exchanges c.args.gate.now) (g.G.Gate.exchanges c.loop-i.gate) (g.G.Gate.exchanges c.ask_page.new.gate)
      (g.T.Teller.memory c.args.teller.now) (g.T.Teller.memory c.loop-i.teller) (g.T.Teller.memory c.tell.new.self) c.loop-i._i c.loop-i.skip
      c.in_ok-command.field-0 (c.in-Filled.command, c.in_ok-tell-in-Filled.field-0) c.in-Filled.elements
      c.loop-i.invariant.so_far c.loop-i-test.true c.in_ok-command.ensures.page c.in-Filled.is c.in_ok-command.ensures.few c.in_ok-tell-in-Filled.ensures.told;
  ends =
      ends_more false (g.T.Teller.steps c.args.teller.now) (g.T.Teller.steps c.loop-i.teller) (g.T.Teller.steps c.tell.new.self) _
      c.loop-i.invariant.ends c.in_ok-tell-in-Filled.ensures.once refl;
}

pub returns-clause-round : goal.returns-clause-round
returns-clause-round g c =
    let end = c.loop-i.auto._i-end in
    let full = c.loop-i-test.false in
    paged_full c.args.upstream.now c.args.kind (g.G.Gate.exchanges c.args.gate.now) (g.G.Gate.exchanges c.loop-i.gate)
    (g.T.Teller.memory c.args.teller.now) (g.T.Teller.memory c.loop-i.teller) c.loop-i._i c.loop-i.skip
    c.loop-i.invariant.so_far (omega (arith, end, full))

-- ---- what the store refused

pub returns-in_err-command-clause-ends : goal.returns-in_err-command-clause-ends
returns-in_err-command-clause-ends g c =
    ends_memory c.from_residual.result c.in_err-command.field-0.0 (g.T.Teller.steps c.args.teller.now) (g.T.Teller.steps c.loop-i.teller)
    c.from_residual.ensures.1 c.in_err-command.ensures.memory c.loop-i.invariant.ends

pub returns-in_err-tell-in-Filled-clause-ends : goal.returns-in_err-tell-in-Filled-clause-ends
returns-in_err-tell-in-Filled-clause-ends g c =
    let e = c.in_err-tell-in-Filled.field-0.0 in
    let before = g.T.Teller.steps c.args.teller.now in
    let after = g.T.Teller.steps c.tell.new.self in
    ends_handed c.from_residual-in_err-tell-in-Filled.result e before after c.from_residual-in_err-tell-in-Filled.ensures.1
    (ends_more (is_stores e) before (g.T.Teller.steps c.loop-i.teller) after _ c.loop-i.invariant.ends c.in_err-tell-in-Filled.ensures.once refl)
