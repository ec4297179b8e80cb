use Rattle.std.proofs.Common.{false, refl, subst, Ok}
use Rattle.adr_lock.specs.Halting.{is_stores}
use Rattle.adr_work.proofs.Halting.{ends_one, ends_both, ends_handed}
use Rattle.adr_work.specs.Rounds.{Goes, IsListing}
use Rattle.adr_work.proofs.Rounding.{round_cut, round_list_cut, round_broken, round_end_cut, round_whole}
use Rattle.adr_work.proofs.polling.poll.Goals as goal

pub returns-in_err-tell-clause-round : goal.returns-in_err-tell-clause-round
returns-in_err-tell-clause-round g c =
    round_cut c.args.upstream.now (g.G.Gate.exchanges c.args.gate.now) (g.T.Teller.memory c.args.teller.now) (g.T.Teller.memory c.tell.new.self)
    c.from_residual.result c.in_err-tell.ensures.refused c.from_residual.ensures.0

pub returns-in_err-poll_both-clause-round : goal.returns-in_err-poll_both-clause-round
returns-in_err-poll_both-clause-round g c =
    round_list_cut c.args.upstream.now (g.G.Gate.exchanges c.args.gate.now) (g.G.Gate.exchanges c.poll_both.new.gate)
    (g.T.Teller.memory c.args.teller.now) (g.T.Teller.memory c.tell.new.self) (g.T.Teller.memory c.poll_both.new.teller)
    c.in_ok-tell.field-0 c.in_ok-tell.ensures.told
    c.in_err-poll_both.field-0.0 c.from_residual-in_err-poll_both.result c.in_err-poll_both.ensures.round c.from_residual-in_err-poll_both.ensures.0

pub returns-in_err-end_scan-in-Whole-clause-round : goal.returns-in_err-end_scan-in-Whole-clause-round
returns-in_err-end_scan-in-Whole-clause-round g c =
    let u = c.args.upstream.now in
    let before = g.G.Gate.exchanges c.args.gate.now in
    let after = g.G.Gate.exchanges c.poll_both.new.gate in
    let heard = g.T.Teller.memory c.tell.new.self in
    let is = g.T.Teller.memory c.poll_both.new.teller in
    round_end_cut u before after (g.T.Teller.memory c.args.teller.now) heard is c.in_ok-tell.field-0 c.in_ok-tell.ensures.told
    (g.G.Gate.exchanges c.end_scan.new.gate) (g.T.Teller.memory c.end_scan.new.teller)
    (subst (λ end. Goes before after heard is (IsListing u (Ok end))) c.in-Whole.is c.in_ok-poll_both.ensures.round)
    c.in_err-end_scan-in-Whole.field-0.0 c.from_residual-in_err-end_scan-in-Whole.result
    c.in_err-end_scan-in-Whole.ensures.round c.from_residual-in_err-end_scan-in-Whole.ensures.0

pub returns-in_ok-end_scan-in-Whole-clause-round : goal.returns-in_ok-end_scan-in-Whole-clause-round
returns-in_ok-end_scan-in-Whole-clause-round g c =
    let u = c.args.upstream.now in
    let before = g.G.Gate.exchanges c.args.gate.now in
    let after = g.G.Gate.exchanges c.poll_both.new.gate in
    let heard = g.T.Teller.memory c.tell.new.self in
    let is = g.T.Teller.memory c.poll_both.new.teller in
    round_whole u before after (g.T.Teller.memory c.args.teller.now) heard is c.in_ok-tell.field-0 c.in_ok-tell.ensures.told
    (g.G.Gate.exchanges c.end_scan.new.gate) (g.T.Teller.memory c.end_scan.new.teller)
    (subst (λ end. Goes before after heard is (IsListing u (Ok end))) c.in-Whole.is c.in_ok-poll_both.ensures.round)
    c.in_ok-end_scan-in-Whole.ensures.round

pub returns-in-Broken-clause-round : goal.returns-in-Broken-clause-round
returns-in-Broken-clause-round g c =
    let u = c.args.upstream.now in
    let before = g.G.Gate.exchanges c.args.gate.now in
    let after = g.G.Gate.exchanges c.poll_both.new.gate in
    let heard = g.T.Teller.memory c.tell.new.self in
    let is = g.T.Teller.memory c.poll_both.new.teller in
    round_broken u before after (g.T.Teller.memory c.args.teller.now) heard is c.in_ok-tell.field-0 c.in_ok-tell.ensures.told
    (subst (λ end. Goes before after heard is (IsListing u (Ok end))) c.in-Broken.is c.in_ok-poll_both.ensures.round)

-- ---- what the store refused

pub returns-in_err-tell-clause-ends : goal.returns-in_err-tell-clause-ends
returns-in_err-tell-clause-ends g c =
    let e = c.in_err-tell.field-0.0 in
    let before = g.T.Teller.steps c.args.teller.now in
    let after = g.T.Teller.steps c.tell.new.self in
    ends_handed c.from_residual.result e before after c.from_residual.ensures.1
    (ends_one (is_stores e) before after _ c.in_err-tell.ensures.once refl)

pub returns-in_err-poll_both-clause-ends : goal.returns-in_err-poll_both-clause-ends
returns-in_err-poll_both-clause-ends g c =
    let e = c.in_err-poll_both.field-0.0 in
    let before = g.T.Teller.steps c.args.teller.now in
    let begun = g.T.Teller.steps c.tell.new.self in
    let after = g.T.Teller.steps c.poll_both.new.teller in
    ends_handed c.from_residual-in_err-poll_both.result e before after c.from_residual-in_err-poll_both.ensures.1
    (ends_both (is_stores e) before begun after (ends_one false before begun _ c.in_ok-tell.ensures.once refl) c.in_err-poll_both.ensures.ends)

pub returns-in_err-end_scan-in-Whole-clause-ends : goal.returns-in_err-end_scan-in-Whole-clause-ends
returns-in_err-end_scan-in-Whole-clause-ends g c =
    let e = c.in_err-end_scan-in-Whole.field-0.0 in
    let before = g.T.Teller.steps c.args.teller.now in
    let begun = g.T.Teller.steps c.tell.new.self in
    let listed = g.T.Teller.steps c.poll_both.new.teller in
    let after = g.T.Teller.steps c.end_scan.new.teller in
    ends_handed c.from_residual-in_err-end_scan-in-Whole.result e before after c.from_residual-in_err-end_scan-in-Whole.ensures.1
    (ends_both (is_stores e) before listed after
    (ends_both false before begun listed (ends_one false before begun _ c.in_ok-tell.ensures.once refl) c.in_ok-poll_both.ensures.ends)
    c.in_err-end_scan-in-Whole.ensures.ends)

pub returns-in_ok-end_scan-in-Whole-clause-ends : goal.returns-in_ok-end_scan-in-Whole-clause-ends
returns-in_ok-end_scan-in-Whole-clause-ends g c =
    let before = g.T.Teller.steps c.args.teller.now in
    let begun = g.T.Teller.steps c.tell.new.self in
    let listed = g.T.Teller.steps c.poll_both.new.teller in
    ends_both false before listed (g.T.Teller.steps c.end_scan.new.teller)
    (ends_both false before begun listed (ends_one false before begun _ c.in_ok-tell.ensures.once refl) c.in_ok-poll_both.ensures.ends)
    c.in_ok-end_scan-in-Whole.ensures.ends

pub returns-in-Broken-clause-ends : goal.returns-in-Broken-clause-ends
returns-in-Broken-clause-ends g c =
    let before = g.T.Teller.steps c.args.teller.now in
    let begun = g.T.Teller.steps c.tell.new.self in
    ends_both false before begun (g.T.Teller.steps c.poll_both.new.teller) (ends_one false before begun _ c.in_ok-tell.ensures.once refl) c.in_ok-poll_both.ensures.ends
