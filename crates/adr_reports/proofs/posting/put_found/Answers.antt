use Rattle.std.proofs.Common.{◌&&◌, Option, ℕ, Result, Err, refl, sym, ap, subst, ◌∙◌, arith}
use Rattle.adr_text.specs.Refusals.{◌>>=◌}
use Rattle.adr_text.specs.declared.refusal.Refusal.TheVariants.{NotFound}
use Rattle.adr_db.proofs.Common.{state, HasCleanDisk, Refusal, IsRefusalOf, Forbidden}
use Rattle.adr_db.specs.Bases.{kept_beside}
use Rattle.adr_db.proofs.Results.{handed_on, ok_then, refused_so, err_then, passed, stopped}
use Rattle.adr_state.specs.declared.portfolio.Report.{Report}
use Rattle.adr_view.specs.Reports.{sees_resource, may_report}
use Rattle.adr_counted.proofs.Decided.{carried_as}
use Rattle.adr_counted.proofs.Known.{one_there}
use Rattle.adr_reports.specs.Decided.{resource_of, put_again}
use Rattle.adr_reports.proofs.Testing.{behind}
use Rattle.adr_reports.proofs.posting.put_found.Goals as goal

pub returns-in_err-unless-clause-refuses : goal.returns-in_err-unless-clause-refuses
returns-in_err-unless-clause-refuses g c clean =
    let e = c.in_err-unless.field-0.0 in
    let no = stopped Forbidden _ e (sym c.unless.ensures.gives ∙ c.in_err-unless.was) in
    handed_on _ c.from_residual-in_err-unless.result e c.from_residual-in_err-unless.ensures.1 (λ beside base was same.
    let may = c.in_ok-may.ensures.finds clean (kept_beside beside base) was in
    let tested = ap (λ (found : Option (ℕ × Report)). sees_resource c.args.sight (resource_of found base.portfolio) && may_report c.args.sight c.args.report.now base.portfolio) (sym c.as_ref.ensures.value) ∙ sym may.0 in
    refused_so e _ (rw (tested ∙ no.0) (ap Err (sym no.1))))

pub returns-in_err-old-clause-refuses : goal.returns-in_err-old-clause-refuses
returns-in_err-old-clause-refuses g c clean =
    let e = c.in_err-old.field-0.0 in
    let yes = passed Forbidden _ _ (sym c.unless.ensures.gives ∙ c.in_ok-unless.was) in
    handed_on _ c.from_residual-in_err-old.result e c.from_residual-in_err-old.ensures.1 (λ beside base was same.
    let may = c.in_ok-may.ensures.finds clean (kept_beside beside base) was in
    let tested = ap (λ (found : Option (ℕ × Report)). sees_resource c.args.sight (resource_of found base.portfolio) && may_report c.args.sight c.args.report.now base.portfolio) (sym c.as_ref.ensures.value) ∙ sym may.0 in
    refused_so e _ (rw (tested ∙ yes, sym c.there.ensures.gives ∙ c.in_err-old.was) refl))

pub returns-clause-carries : goal.returns-clause-carries
returns-clause-carries g c clean =
    let early : HasCleanDisk (state g.S.Store c.may_put.new.tx.conn.now) = omega (arith, c.put_at.ensures.lent.stays.crash.clean) in
    let yes = passed Forbidden _ _ (sym c.unless.ensures.gives ∙ c.in_ok-unless.was) in
    ok_then c.put_at.result (λ x puts beside base was same there.
    let may = c.in_ok-may.ensures.finds early (kept_beside beside base) was in
    let tested = ap (λ (found : Option (ℕ × Report)). sees_resource c.args.sight (resource_of found base.portfolio) && may_report c.args.sight c.args.report.now base.portfolio) (sym c.as_ref.ensures.value) ∙ sym may.0 in
    let found_so = sym c.there.ensures.gives ∙ c.in_ok-old.was in
    let put = puts beside base may.1 same (one_there base.portfolio.reports NotFound c.args.found c.in_ok-old.old found_so there) in
    carried_as put (rw (tested ∙ yes, found_so) refl)) (c.put_at.ensures.carries clean)

pub returns-clause-refuses : goal.returns-clause-refuses
returns-clause-refuses g c clean =
    let early : HasCleanDisk (state g.S.Store c.may_put.new.tx.conn.now) = omega (arith, clean, c.put_at.ensures.lent.stays.crash.clean) in
    let yes = passed Forbidden _ _ (sym c.unless.ensures.gives ∙ c.in_ok-unless.was) in
    err_then c.put_at.result (λ e refuses beside base was same.
    let may = c.in_ok-may.ensures.finds early (kept_beside beside base) was in
    let tested = ap (λ (found : Option (ℕ × Report)). sees_resource c.args.sight (resource_of found base.portfolio) && may_report c.args.sight c.args.report.now base.portfolio) (sym c.as_ref.ensures.value) ∙ sym may.0 in
    let found_so = sym c.there.ensures.gives ∙ c.in_ok-old.was in
    behind _ _ e (tested ∙ yes) (subst (λ (r : Result (ℕ × Report) Refusal). IsRefusalOf e (r >>= λ old. put_again c.args.revision old.0 c.args.report.now base.mirror base.portfolio)) (sym found_so) (refuses beside base may.1 same))) (c.put_at.ensures.refuses clean)
