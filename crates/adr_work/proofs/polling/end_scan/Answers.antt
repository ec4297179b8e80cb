use Rattle.std.proofs.Common.{false, refl}
use Rattle.adr_lock.specs.Halting.{is_stores, by_store}
use Rattle.adr_work.proofs.Halting.{ends_one, ends_both, ends_handed}
use Rattle.adr_work.proofs.Rounding.{ended_cut}
use Rattle.adr_work.proofs.polling.end_scan.Goals as goal

pub returns-in_err-missed-clause-round : goal.returns-in_err-missed-clause-round
returns-in_err-missed-clause-round g c =
    ended_cut c.args.upstream.now (g.G.Gate.exchanges c.args.gate.now) (g.T.Teller.memory c.args.teller.now) (g.T.Teller.memory c.tell.new.self)
    c.from_residual.result c.in_err-missed.ensures.refused c.from_residual.ensures.0

pub returns-in_err-missed-clause-ends : goal.returns-in_err-missed-clause-ends
returns-in_err-missed-clause-ends g c =
    let e = c.in_err-missed.field-0.0 in
    let before = g.T.Teller.steps c.args.teller.now in
    let after = g.T.Teller.steps c.tell.new.self in
    ends_handed c.from_residual.result e before after c.from_residual.ensures.1
    (ends_one (is_stores e) before after _ c.in_err-missed.ensures.once refl)

pub returns-clause-ends : goal.returns-clause-ends
returns-clause-ends g c =
    let before = g.T.Teller.steps c.args.teller.now in
    let between = g.T.Teller.steps c.tell.new.self in
    ends_both (by_store c.probe_each.result) before between (g.T.Teller.steps c.probe_each.new.teller)
    (ends_one false before between _ c.in_ok-missed.ensures.once refl) c.probe_each.ensures.ends
