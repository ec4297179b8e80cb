use Rattle.adr_db.proofs.Common.{state, HasCleanDisk}
use Rattle.adr_db.proofs.Results.{ok_then}
use Rattle.adr_lent.proofs.Streams.{clean_before}
use Rattle.adr_lent_image.proofs.reports.lent_reports.Goals as goal

pub returns-clause-finds : goal.returns-clause-finds
returns-clause-finds g c clean =
    let early : HasCleanDisk (state g.S.Store c.lent_intervals.new.conn) = clean_before (state g.S.Store c.lent_intervals.new.conn) (state g.S.Store c.reports_with.new.conn) _ c.reports_with.ensures.stands.crash clean in
    ok_then c.reports_with.result (λ reports found kept was. let waits = c.in_ok-waiting.ensures.finds early kept was in let whole = found kept waits.1 in (whole.0 waits.0, whole.1)) (c.reports_with.ensures.finds clean)
