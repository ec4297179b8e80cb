use Rattle.std.proofs.Common.{Option, ℕ, Err, sym, ap, subst, ◌∙◌, arith}
use Rattle.adr_db.proofs.Common.{state, HasCleanDisk, number_in, IsRefusalOf, Forbidden}
use Rattle.adr_db.specs.Bases.{kept_beside}
use Rattle.adr_db.proofs.Results.{handed_on, ok_then, refused_so, err_then, passed, stopped}
use Rattle.adr_state.specs.declared.portfolio.Report.{Report}
use Rattle.adr_view.specs.Reports.{sees_resource}
use Rattle.adr_counted.proofs.Decided.{carried_as}
use Rattle.adr_counted.proofs.Known.{found_there}
use Rattle.adr_reports.specs.Decided.{resource_of, removed}
use Rattle.adr_reports.proofs.Testing.{behind}
use Rattle.adr_reports.proofs.posting.delete.Goals as goal

pub returns-in_err-unless-clause-refuses : goal.returns-in_err-unless-clause-refuses
returns-in_err-unless-clause-refuses g c clean =
    let early : HasCleanDisk (state g.S.Store c.report_with_id.new.tx.conn.now) = omega (arith, clean, c.may_change.ensures.lent.stays.crash.clean) in
    let e = c.in_err-unless.field-0.0 in
    let no = stopped Forbidden _ e (sym c.unless.ensures.gives ∙ c.in_err-unless.was) in
    handed_on _ c.from_residual-in_err-unless.result e c.from_residual-in_err-unless.ensures.1 (λ beside base was same.
    let found = c.in_ok-found.ensures.finds early (kept_beside beside base) was in
    let may = c.in_ok-may.ensures.finds clean (kept_beside beside base) found.1 in
    let tested = ap (λ (found : Option (ℕ × Report)). sees_resource c.args.sight (resource_of found base.portfolio)) (sym found.0 ∙ sym c.as_ref.ensures.value) ∙ sym may.0 in
    refused_so e _ (rw (tested ∙ no.0) (ap Err (sym no.1))))

pub returns-clause-carries : goal.returns-clause-carries
returns-clause-carries g c clean =
    let changed : HasCleanDisk (state g.S.Store c.may_change.new.tx.conn.now) = omega (arith, c.remove.ensures.lent.stays.crash.clean) in
    let early : HasCleanDisk (state g.S.Store c.report_with_id.new.tx.conn.now) = omega (arith, changed, c.may_change.ensures.lent.stays.crash.clean) in
    let yes = passed Forbidden _ _ (sym c.unless.ensures.gives ∙ c.in_ok-unless.was) in
    ok_then c.remove.result (λ x removes beside base was same.
    let found = c.in_ok-found.ensures.finds early (kept_beside beside base) was in
    let may = c.in_ok-may.ensures.finds changed (kept_beside beside base) found.1 in
    let tested = ap (λ (found : Option (ℕ × Report)). sees_resource c.args.sight (resource_of found base.portfolio)) (sym found.0 ∙ sym c.as_ref.ensures.value) ∙ sym may.0 in
    let gone = removes beside base may.1 same (found_there base.portfolio.reports (number_in 112 c.args.id.now) c.in_ok-found.found found.0) in
    carried_as gone (rw (tested ∙ yes) (ap (λ found. removed found base.portfolio) (sym found.0)))) (c.remove.ensures.carries clean)

pub returns-clause-refuses : goal.returns-clause-refuses
returns-clause-refuses g c clean =
    let changed : HasCleanDisk (state g.S.Store c.may_change.new.tx.conn.now) = omega (arith, clean, c.remove.ensures.lent.stays.crash.clean) in
    let early : HasCleanDisk (state g.S.Store c.report_with_id.new.tx.conn.now) = omega (arith, changed, c.may_change.ensures.lent.stays.crash.clean) in
    let yes = passed Forbidden _ _ (sym c.unless.ensures.gives ∙ c.in_ok-unless.was) in
    err_then c.remove.result (λ e refuses beside base was same.
    let found = c.in_ok-found.ensures.finds early (kept_beside beside base) was in
    let may = c.in_ok-may.ensures.finds changed (kept_beside beside base) found.1 in
    let tested = ap (λ (found : Option (ℕ × Report)). sees_resource c.args.sight (resource_of found base.portfolio)) (sym found.0 ∙ sym c.as_ref.ensures.value) ∙ sym may.0 in
    behind _ _ e (tested ∙ yes) (subst (λ found. IsRefusalOf e (removed found base.portfolio)) found.0 (refuses beside base may.1 same))) (c.remove.ensures.refuses clean)
