use Rattle.std.proofs.Common.{[], ◌∷◌, refl, arith, subst}
use Rattle.adr_text.specs.declared.refusal.Refusal.TheVariants.{Exhausted}
use Rattle.adr_db.proofs.Common.{state, IsRefusalOf}
use Rattle.adr_db.proofs.Results.{handed_on}
use Rattle.adr_db.specs.Images.{outbox_of}
use Rattle.adr_outbox.specs.Told.{job_leased}
use Rattle.adr_outbox.specs.Turned.{IsTurned}
use Rattle.adr_desk.proofs.DeliveryLemmas.{lease_told, lease_refused}
use Rattle.adr_desk.proofs.ListedLemmas.{Listed, either_listed}
use Rattle.adr_desk.proofs.deliver.leased.Goals as goal

pub returns-in_err-job-clause-refuses : goal.returns-in_err-job-clause-refuses
returns-in_err-job-clause-refuses g c clean =
    let meta = c.args.meta.now in
    let e = c.in_err-job.field-0.0 in
    handed_on _ c.from_residual.result e c.from_residual.ensures.1 (λ kept was same.
    lease_refused g.S.Store c.args.tx.now.conn.now c.lease.new.tx.conn.now c.args.limits.now c.args.now meta kept e
    (subst (λ most. IsRefusalOf e (job_leased most c.args.now (outbox_of meta kept))) c.get.ensures.value (c.in_err-job.ensures.refuses meta clean kept was same)))

pub returns-in_err-job-clause-listed : goal.returns-in_err-job-clause-listed
returns-in_err-job-clause-listed g c =
    let e = c.in_err-job.field-0.0 in
    handed_on (Listed (Exhausted ∷ [])) c.from_residual.result e c.from_residual.ensures.1 (either_listed (Exhausted ∷ []) Exhausted (0, omega arith, refl) e c.in_err-job.ensures.refused)

pub returns-clause-turns : goal.returns-clause-turns
returns-clause-turns g c clean = λ kept was same.
    let meta = c.args.meta.now in
    lease_told g.S.Store c.args.tx.now.conn.now c.lease.new.tx.conn.now c.args.limits.now c.args.now meta kept c.in_ok-job.job
    (subst (λ most. IsTurned (job_leased most c.args.now) meta meta kept c.in_ok-job.job (state g.S.Store c.lease.new.tx.conn.now)) c.get.ensures.value (c.in_ok-job.ensures.turns meta clean kept was same))
