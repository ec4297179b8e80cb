use Rattle.std.proofs.Common.{false, refl, Ok, Err}
use Rattle.adr_text.specs.declared.refusal.Refusal.TheVariants.{OutOfMemory}
use Rattle.adr_lock.specs.Halting.{is_stores}
use Rattle.adr_work.specs.Leased.{lease_with}
use Rattle.adr_work.proofs.Halting.{ends_one, ends_handed}
use Rattle.adr_work.proofs.dispatcher.lease.Goals as goal

-- the lease was refused
pub returns-in_err-answer-clause-ends : goal.returns-in_err-answer-clause-ends
returns-in_err-answer-clause-ends g c =
    let e = c.in_err-answer.field-0.0 in
    let before = c.args.steps.now.items in
    let after = c.take_under_lock.new.steps.items in
    ends_handed c.from_residual.result e before after c.from_residual.ensures.1
    (ends_one (is_stores e) before after (lease_with (Err e)) c.in_err-answer.ensures.steps refl)

-- memory was wanting behind it
pub returns-in_err-job_in-clause-ends : goal.returns-in_err-job_in-clause-ends
returns-in_err-job_in-clause-ends g c =
    let before = c.args.steps.now.items in
    let after = c.take_under_lock.new.steps.items in
    ends_handed c.from_residual-in_err-job_in.result OutOfMemory before after c.from_residual-in_err-job_in.ensures.1
    (ends_one false before after (lease_with (Ok c.in_ok-answer.answer)) c.in_ok-answer.ensures.steps refl)

pub returns-clause-ends : goal.returns-clause-ends
returns-clause-ends g c =
    ends_one false c.args.steps.now.items c.take_under_lock.new.steps.items (lease_with (Ok c.in_ok-answer.answer)) c.in_ok-answer.ensures.steps refl
