use Rattle.adr_db.proofs.Common.{state}
use Rattle.adr_db.specs.Bases.{kept_beside}
use Rattle.adr_db.proofs.Results.{on_then}
use Rattle.adr_counted.proofs.Puts.{resource_counted}
use Rattle.adr_counted.proofs.resource.put_resource.Goals as goal

pub returns-clause-counts : goal.returns-clause-counts
returns-clause-counts g c clean =
    on_then c.put_resource.result (λ leaves beside base was same so. record {
      holds = leaves (kept_beside beside base) was;
      counted = resource_counted beside base (state g.S.Store c.args.tx.now.conn.now) was c.args.is_there c.args.meta.now _ same c.args.id c.args.resource.now so c.in_ok-count_put.ensures.counts;
    }) (c.put_resource.ensures.leaves clean)
