use Rattle.std.proofs.Common.{subst, Ok}
use Rattle.adr_objects.specs.declared.kind.Kind.TheVariants.{Program}
use Rattle.adr_work.specs.Rounds.{Goes, IsPaging}
use Rattle.adr_lock.specs.Halting.{by_store}
use Rattle.adr_work.proofs.Halting.{ends_both, ends_handed}
use Rattle.adr_work.proofs.Rounding.{listed_cut, listed_broken, listed_next}
use Rattle.adr_work.proofs.polling.poll_both.Goals as goal

pub returns-in_err-poll_pages-clause-round : goal.returns-in_err-poll_pages-clause-round
returns-in_err-poll_pages-clause-round g c =
    listed_cut c.args.upstream.now (g.G.Gate.exchanges c.args.gate.now) (g.G.Gate.exchanges c.poll_pages.new.gate)
    (g.T.Teller.memory c.args.teller.now) (g.T.Teller.memory c.poll_pages.new.teller)
    c.in_err-poll_pages.field-0.0 c.from_residual.result c.in_err-poll_pages.ensures.round c.from_residual.ensures.0

pub returns-in-Whole-clause-round : goal.returns-in-Whole-clause-round
returns-in-Whole-clause-round g c =
    let u = c.args.upstream.now in
    let before = g.G.Gate.exchanges c.args.gate.now in
    let after = g.G.Gate.exchanges c.poll_pages.new.gate in
    let was = g.T.Teller.memory c.args.teller.now in
    let is = g.T.Teller.memory c.poll_pages.new.teller in
    listed_next u before after (g.G.Gate.exchanges c.poll_pages-in-Whole.new.gate) was is (g.T.Teller.memory c.poll_pages-in-Whole.new.teller)
    c.poll_pages-in-Whole.result
    (subst (λ end. Goes before after was is (IsPaging u Program (Ok end))) c.in-Whole.is c.in_ok-poll_pages.ensures.round)
    c.poll_pages-in-Whole.ensures.round

pub returns-in-Broken-clause-round : goal.returns-in-Broken-clause-round
returns-in-Broken-clause-round g c =
    let u = c.args.upstream.now in
    let before = g.G.Gate.exchanges c.args.gate.now in
    let after = g.G.Gate.exchanges c.poll_pages.new.gate in
    let was = g.T.Teller.memory c.args.teller.now in
    let is = g.T.Teller.memory c.poll_pages.new.teller in
    listed_broken u before after was is
    (subst (λ end. Goes before after was is (IsPaging u Program (Ok end))) c.in-Broken.is c.in_ok-poll_pages.ensures.round)

pub returns-in_err-poll_pages-clause-ends : goal.returns-in_err-poll_pages-clause-ends
returns-in_err-poll_pages-clause-ends g c =
    ends_handed c.from_residual.result c.in_err-poll_pages.field-0.0 (g.T.Teller.steps c.args.teller.now) (g.T.Teller.steps c.poll_pages.new.teller)
    c.from_residual.ensures.1 c.in_err-poll_pages.ensures.ends

pub returns-in-Whole-clause-ends : goal.returns-in-Whole-clause-ends
returns-in-Whole-clause-ends g c =
    ends_both (by_store c.poll_pages-in-Whole.result) (g.T.Teller.steps c.args.teller.now) (g.T.Teller.steps c.poll_pages.new.teller)
    (g.T.Teller.steps c.poll_pages-in-Whole.new.teller) c.in_ok-poll_pages.ensures.ends c.poll_pages-in-Whole.ensures.ends

pub returns-in-Broken-clause-ends : goal.returns-in-Broken-clause-ends
returns-in-Broken-clause-ends g c = c.in_ok-poll_pages.ensures.ends
