use Rattle.std.proofs.Common.{false, refl, sym, ap, ◌∙◌}
use Rattle.adr_text.specs.declared.refusal.Refusal.TheVariants.{OutOfMemory}
use Rattle.adr_lock.specs.Halting.{is_stores}
use Rattle.adr_work.specs.Exchanges.{to_utility}
use Rattle.adr_work.proofs.Halting.{ends_none, ends_one, ends_handed}
use Rattle.adr_work.proofs.Probing.{probe_none, probe_cut, probe_passed, probe_heard}
use Rattle.adr_work.proofs.polling.probe.Goals as goal

pub returns-in_err-probe_request-clause-round : goal.returns-in_err-probe_request-clause-round
returns-in_err-probe_request-clause-round g c =
    probe_none c.args.upstream.now c.args.key.now (g.G.Gate.exchanges c.args.gate.now) (g.T.Teller.memory c.args.teller.now)
    c.from_residual.result c.from_residual.ensures.0

pub returns-in_err-command-clause-round : goal.returns-in_err-command-clause-round
returns-in_err-command-clause-round g c =
    probe_cut c.args.upstream.now c.args.key.now (g.G.Gate.exchanges c.args.gate.now) (g.G.Gate.exchanges c.ask-came.new.self) (g.T.Teller.memory c.args.teller.now)
    c.to_utility-request.result c.ask-came.result (c.to_utility-request.ensures ∙ ap to_utility c.in_ok-probe_request.ensures) c.ask-came.ensures
    (g.T.Teller.memory c.args.teller.now) c.from_residual-in_err-command.result refl c.from_residual-in_err-command.ensures.0

pub returns-in_default-clause-round : goal.returns-in_default-clause-round
returns-in_default-clause-round g c =
    probe_passed c.args.upstream.now c.args.key.now (g.G.Gate.exchanges c.args.gate.now) (g.G.Gate.exchanges c.ask-came.new.self) (g.T.Teller.memory c.args.teller.now)
    c.to_utility-request.result c.ask-came.result (c.to_utility-request.ensures ∙ ap to_utility c.in_ok-probe_request.ensures) c.ask-came.ensures
    (sym c.in_default.is ∙ c.in_ok-command.ensures)

pub returns-in_err-tell-clause-round : goal.returns-in_err-tell-clause-round
returns-in_err-tell-clause-round g c =
    probe_cut c.args.upstream.now c.args.key.now (g.G.Gate.exchanges c.args.gate.now) (g.G.Gate.exchanges c.ask-came.new.self) (g.T.Teller.memory c.args.teller.now)
    c.to_utility-request.result c.ask-came.result (c.to_utility-request.ensures ∙ ap to_utility c.in_ok-probe_request.ensures) c.ask-came.ensures
    (g.T.Teller.memory c.tell.new.self) c.from_residual-in_err-tell.result c.in_err-tell.ensures.refused c.from_residual-in_err-tell.ensures.0

pub returns-clause-round : goal.returns-clause-round
returns-clause-round g c =
    probe_heard c.args.upstream.now c.args.key.now (g.G.Gate.exchanges c.args.gate.now) (g.G.Gate.exchanges c.ask-came.new.self) (g.T.Teller.memory c.args.teller.now)
    c.to_utility-request.result c.ask-came.result (c.to_utility-request.ensures ∙ ap to_utility c.in_ok-probe_request.ensures) c.ask-came.ensures
    (g.T.Teller.memory c.tell.new.self) (c.in-Some.command, c.in_ok-tell.field-0) (sym c.in-Some.is ∙ c.in_ok-command.ensures) c.in_ok-tell.ensures.told

-- ---- what the store refused

pub returns-in_err-probe_request-clause-ends : goal.returns-in_err-probe_request-clause-ends
returns-in_err-probe_request-clause-ends g c =
    let steps = g.T.Teller.steps c.args.teller.now in
    ends_handed c.from_residual.result OutOfMemory steps steps c.from_residual.ensures.1 (ends_none steps)

pub returns-in_err-command-clause-ends : goal.returns-in_err-command-clause-ends
returns-in_err-command-clause-ends g c =
    let steps = g.T.Teller.steps c.args.teller.now in
    ends_handed c.from_residual-in_err-command.result OutOfMemory steps steps c.from_residual-in_err-command.ensures.1 (ends_none steps)

pub returns-in_default-clause-ends : goal.returns-in_default-clause-ends
returns-in_default-clause-ends g c = ends_none (g.T.Teller.steps c.args.teller.now)

pub returns-in_err-tell-clause-ends : goal.returns-in_err-tell-clause-ends
returns-in_err-tell-clause-ends g c =
    let e = c.in_err-tell.field-0.0 in
    let before = g.T.Teller.steps c.args.teller.now in
    let after = g.T.Teller.steps c.tell.new.self in
    ends_handed c.from_residual-in_err-tell.result e before after c.from_residual-in_err-tell.ensures.1
    (ends_one (is_stores e) before after _ c.in_err-tell.ensures.once refl)

pub returns-clause-ends : goal.returns-clause-ends
returns-clause-ends g c =
    ends_one false (g.T.Teller.steps c.args.teller.now) (g.T.Teller.steps c.tell.new.self) _ c.in_ok-tell.ensures.once refl
