use Rattle.std.proofs.Common.{Err, refl, sym, ap, ◌∙◌, arith}
use Rattle.adr_db.proofs.Common.{state, HasCleanDisk, Forbidden}
use Rattle.adr_db.specs.Bases.{kept_beside}
use Rattle.adr_db.proofs.Results.{handed_on, ok_then, refused_so, err_then, passed, stopped}
use Rattle.adr_counted.proofs.Decided.{carried_as}
use Rattle.adr_reports.proofs.Testing.{behind}
use Rattle.adr_reports.proofs.posting.post.Goals as goal

pub returns-in_err-unless-clause-refuses : goal.returns-in_err-unless-clause-refuses
returns-in_err-unless-clause-refuses g c clean =
    let e = c.in_err-unless.field-0.0 in
    let no = stopped Forbidden _ e (sym c.unless.ensures.gives ∙ c.in_err-unless.was) in
    handed_on _ c.from_residual-in_err-unless.result e c.from_residual-in_err-unless.ensures.1 (λ beside base was same.
    let may = c.in_ok-may.ensures.finds clean (kept_beside beside base) was in
    refused_so e _ (rw (sym may.0 ∙ no.0) (ap Err (sym no.1))))

pub returns-clause-carries : goal.returns-clause-carries
returns-clause-carries g c clean =
    let early : HasCleanDisk (state g.S.Store c.may_report.new.tx.conn.now) = omega (arith, c.make.ensures.lent.stays.crash.clean) in
    let yes = passed Forbidden _ _ (sym c.unless.ensures.gives ∙ c.in_ok-unless.was) in
    ok_then c.make.result (λ x makes beside base was same.
    let may = c.in_ok-may.ensures.finds early (kept_beside beside base) was in
    let made = makes beside base may.1 same in
    carried_as made (rw (sym may.0 ∙ yes) refl)) (c.make.ensures.carries clean)

pub returns-clause-refuses : goal.returns-clause-refuses
returns-clause-refuses g c clean =
    let early : HasCleanDisk (state g.S.Store c.may_report.new.tx.conn.now) = omega (arith, clean, c.make.ensures.lent.stays.crash.clean) in
    let yes = passed Forbidden _ _ (sym c.unless.ensures.gives ∙ c.in_ok-unless.was) in
    err_then c.make.result (λ e refuses beside base was same. let may = c.in_ok-may.ensures.finds early (kept_beside beside base) was in behind _ _ e (sym may.0 ∙ yes) (refuses beside base may.1 same)) (c.make.ensures.refuses clean)
