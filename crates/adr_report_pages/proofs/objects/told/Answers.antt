use Rattle.std.proofs.Common.{sym, arith, ◌∙◌}
use Rattle.adr_db.proofs.Common.{state, HasCleanDisk}
use Rattle.adr_db.proofs.Results.{ok_then}
use Rattle.adr_report_pages.specs.Objects.{object_with}
use Rattle.adr_report_pages.proofs.objects.told.Goals as goal

pub returns-clause-finds : goal.returns-clause-finds
returns-clause-finds g c clean =
    let early : HasCleanDisk (state g.S.Store c.read_values.new.tx.conn.now) = omega (arith, clean, c.read_stamps_of.ensures.lent.stays.crash.clean) in
    ok_then c.object_of.result
    (λ object is kept was.
    let intervals = c.in_ok-intervals.ensures.finds early kept was in
    let stamps = c.in_ok-stamps.ensures.finds clean kept intervals.1 in
    ((λ i. object_with (c.args.number, c.args.columns) (sym intervals.0 i) (sym stamps.0 i)) ∙ is, stamps.1))
    c.object_of.ensures.object
