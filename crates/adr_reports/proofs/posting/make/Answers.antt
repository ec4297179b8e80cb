use Rattle.std.proofs.Common.{Err, refl, sym, ap, ap₂, ◌∙◌, arith}
use Rattle.std.specs.Prelude.{nat_le}
use Rattle.std.proofs.lemmas.Bool.{not-true, not-false}
use Rattle.adr_db.proofs.Common.{state, HasCleanDisk, LimitReached}
use Rattle.adr_db.specs.declared.meta.Meta.{Meta}
use Rattle.adr_db.specs.Bases.{kept_beside}
use Rattle.adr_db.proofs.Results.{handed_on, ok_then, refused_so, passed, stopped, then_refused}
use Rattle.adr_counted.proofs.Decided.{carried_as}
use Rattle.adr_reports.proofs.posting.make.Goals as goal

pub returns-in_err-on-clause-refuses : goal.returns-in_err-on-clause-refuses
returns-in_err-on-clause-refuses g c clean =
    let e = c.in_err-on.field-0.0 in
    handed_on _ c.from_residual.result e c.from_residual.ensures.1 (λ beside base was same. then_refused e _ _ (c.in_err-on.ensures.refuses clean (kept_beside beside base) was))

pub returns-in_err-unless-clause-refuses : goal.returns-in_err-unless-clause-refuses
returns-in_err-unless-clause-refuses g c clean =
    let e = c.in_err-unless.field-0.0 in
    let none = stopped LimitReached _ e (sym c.unless.ensures.gives ∙ c.in_err-unless.was) in
    handed_on _ c.from_residual-in_err-unless.result e c.from_residual-in_err-unless.ensures.1 (λ beside base was same.
    let found = c.in_ok-on.ensures.finds clean (kept_beside beside base) was in
    let room = ap₂ nat_le c.get.ensures.value (ap (λ (m : Meta). m.reports) same) in
    refused_so e _ (rw (found.0, sym room ∙ not-false _ none.0) (ap Err (sym none.1))))

pub returns-clause-carries : goal.returns-clause-carries
returns-clause-carries g c clean =
    let early : HasCleanDisk (state g.S.Store c.report_on.new.tx.conn.now) = omega (arith, c.add_kept.ensures.lent.stays.crash.clean) in
    ok_then c.add_kept.result (λ x carries beside base was same.
    let found = c.in_ok-on.ensures.finds early (kept_beside beside base) was in
    let room = ap₂ nat_le c.get.ensures.value (ap (λ (m : Meta). m.reports) same) in
    let put = carries beside base found.1 same in
    carried_as put (rw (found.0, sym room ∙ not-true _ (passed LimitReached _ _ (sym c.unless.ensures.gives ∙ c.in_ok-unless.was))) refl)) (c.add_kept.ensures.carries clean)
