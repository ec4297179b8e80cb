use Rattle.std.proofs.Common.{refl, arith}
use Rattle.adr_db.proofs.Common.{state, HasCleanDisk}
use Rattle.adr_db.specs.Bases.{kept_beside}
use Rattle.adr_db.proofs.Results.{handed_on, ok_then, then_refused}
use Rattle.adr_counted.proofs.Decided.{carried_as}
use Rattle.adr_reports.proofs.posting.put_at.Goals as goal

pub returns-in_err-on-clause-refuses : goal.returns-in_err-on-clause-refuses
returns-in_err-on-clause-refuses g c clean =
    let e = c.in_err-on.field-0.0 in
    handed_on _ c.from_residual.result e c.from_residual.ensures.1 (λ beside base was same. then_refused e _ _ (c.in_err-on.ensures.refuses clean (kept_beside beside base) was))

pub returns-clause-carries : goal.returns-clause-carries
returns-clause-carries g c clean =
    let early : HasCleanDisk (state g.S.Store c.report_on.new.tx.conn.now) = omega (arith, c.put_kept.ensures.lent.stays.crash.clean) in
    ok_then c.put_kept.result (λ x carries beside base was same there.
    let found = c.in_ok-on.ensures.finds early (kept_beside beside base) was in
    let put = carries beside base found.1 same there in
    carried_as put (rw found.0 refl)) (c.put_kept.ensures.carries clean)
