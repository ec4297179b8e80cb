use Rattle.std.proofs.Common.{[], ◌∷◌, ◌++◌, refl, ap, ◌∙◌}
use Rattle.adr_link.specs.declared.outcome.Outcome.{Outcome}
use Rattle.adr_machine.specs.declared.command.Command.{Command}
use Rattle.adr_work.specs.Settling.{settlement_of}
use Rattle.adr_lock.specs.Halting.{by_store}
use Rattle.adr_work.proofs.Delivering.{one}
use Rattle.adr_work.proofs.Halting.{ends_one}
use Rattle.adr_work.proofs.delivery.deliver.Goals as goal

-- the settlement is told once
pub returns-clause-delivers : goal.returns-clause-delivers
returns-clause-delivers g c =
    let first = c.args.steps.now.items in
    let answered = c.take_under_lock.result in
    one c.args.peers.now c.args.job.now (g.G.Gate.exchanges c.args.gate.now) (g.G.Gate.exchanges c.send-sent.new.gate)
    first c.take_under_lock.new.steps.items c.send-sent.result answered c.send-sent.ensures
    (c.take_under_lock.ensures.steps ∙ ap (λ (it : Command). first ++ (it, answered) ∷ [])
    (c.settlement_of-command.ensures ∙ ap (λ (outcome : Outcome). settlement_of c.args.job.now outcome) c.outcome_in-outcome.ensures))

-- and it is the only step
pub returns-clause-ends : goal.returns-clause-ends
returns-clause-ends g c =
    let answered = c.take_under_lock.result in
    ends_one (by_store answered) c.args.steps.now.items c.take_under_lock.new.steps.items (c.settlement_of-command.result, answered) c.take_under_lock.ensures.steps refl
