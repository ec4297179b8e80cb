use Rattle.std.proofs.Common.{◌≡◌, List, sym, ap, arith, subst}
use Rattle.crossbeam_queue.specs.Passes.{view}
use Rattle.adr_work.specs.Fair.{all_parts}
use Rattle.adr_work.specs.Seats.{IsShared}
use Rattle.adr_delivery.specs.declared.job.Job.{Job}
use Rattle.adr_work.specs.declared.hand.Hand.{Hand}
use Rattle.adr_work.proofs.Fairness.{clears, learns, shared}
use Rattle.adr_work.proofs.queue.JobQueue.clear.Goals as goal

pub pop_as-requires-clause-rule : goal.pop_as-requires-clause-rule
pop_as-requires-clause-rule g c =
    let v = view c.loop.whole in
    let all : v.parts ≡ all_parts = ap (λ (u : Hand). u.parts) c.loop.invariant.3 in
    (clears c.loop.whole.id v (omega (arith, all)), learns c.loop.whole.id v all)

-- the seat has all parts and the queue was empty
pub returns-in_default-clause-jobs : goal.returns-in_default-clause-jobs
returns-in_default-clause-jobs g c =
    let v = view c.loop.whole in
    let was = view c.args.whole.now in
    let held = c.in_default.ensures.rule in
    let all : IsShared was.put was.taken c.loop.left.items = subst (λ (u : Hand). IsShared u.put u.taken u.left) c.loop.invariant.3 (shared v held.1.0 held.1.1 held.1.2) in
    subst (λ (left : List Job). IsShared was.put was.taken left) (sym c.in_ok-reserve.ensures.items) all
