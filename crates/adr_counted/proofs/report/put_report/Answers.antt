use Rattle.adr_db.proofs.Common.{state}
use Rattle.adr_db.specs.Bases.{kept_beside}
use Rattle.adr_db.proofs.Results.{on_then}
use Rattle.adr_counted.proofs.Puts.{report_counted}
use Rattle.adr_counted.proofs.report.put_report.Goals as goal

pub returns-clause-counts : goal.returns-clause-counts
returns-clause-counts g c clean =
    on_then c.put_report.result (λ leaves beside base was same so. record {
      holds = leaves (kept_beside beside base) was;
      counted = report_counted beside base (state g.S.Store c.args.tx.now.conn.now) was c.args.is_there c.args.meta.now _ same c.args.id c.args.report.now so c.in_ok-count_put.ensures.counts;
    }) (c.put_report.ensures.leaves clean)
