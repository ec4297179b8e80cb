use Rattle.adr_text.specs.declared.refusal.Refusal.TheVariants.{OutOfMemory}
use Rattle.adr_work.proofs.Delivering.{sent_refused, sent_once, lost}
use Rattle.adr_work.proofs.delivery.send.Goals as goal

-- it has no request
pub returns-in_err-request : goal.returns-in_err-request
returns-in_err-request g c =
    sent_refused c.args.peers.now c.args.job.now (g.G.Gate.exchanges c.args.gate.now) c.from_residual.result
    c.in_err-request.field-0.0 c.in_err-request.ensures.refused c.from_residual.ensures.1

-- memory was wanting
pub returns-in_err-may_call : goal.returns-in_err-may_call
returns-in_err-may_call g c =
    sent_refused c.args.peers.now c.args.job.now (g.G.Gate.exchanges c.args.gate.now) c.from_residual-in_err-may_call.result
    OutOfMemory tt c.from_residual-in_err-may_call.ensures.1

-- and behind the exchange
pub returns-in_err-outcome_of : goal.returns-in_err-outcome_of
returns-in_err-outcome_of g c =
    let sent = c.from_residual-in_err-outcome_of.result in
    sent_once c.args.peers.now c.args.job.now (g.G.Gate.exchanges c.args.gate.now) (g.G.Gate.exchanges c.ask-came.new.self)
    sent c.in_ok-request.request c.ask-came.result c.in_ok-request.ensures.request (c.in_ok-may_call.ensures.0 c.if-not-branch.false)
    c.ask-came.ensures (lost c.args.job.now c.ask-came.result sent c.from_residual-in_err-outcome_of.ensures.1)
