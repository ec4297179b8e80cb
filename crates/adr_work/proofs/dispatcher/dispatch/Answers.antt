use Rattle.adr_lock.specs.Halting.{is_stores}
use Rattle.adr_work.proofs.Halting.{ends_both, ends_handed}
use Rattle.adr_work.proofs.dispatcher.dispatch.Goals as goal

-- the lease was refused
pub returns-in_err-job-clause-ends : goal.returns-in_err-job-clause-ends
returns-in_err-job-clause-ends g c =
    let e = c.in_err-job.field-0.0 in
    let before = c.args.steps.now.items in
    let after = c.lease.new.steps.items in
    ends_handed c.from_residual.result e before after c.from_residual.ensures.1
    (ends_both (is_stores e) before c.loop.steps.items after c.loop.invariant.4 c.in_err-job.ensures.ends)
