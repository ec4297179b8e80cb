use Rattle.std.proofs.Common.{arith}
use Rattle.adr_db.proofs.Common.{state, HasCleanDisk, without_ven}
use Rattle.adr_db.specs.Bases.{kept_beside}
use Rattle.adr_db.proofs.Results.{on_then}
use Rattle.adr_counted.proofs.Puts.{gone_counted}
use Rattle.adr_counted.proofs.ven.remove_ven.Goals as goal

pub returns-clause-counts : goal.returns-clause-counts
returns-clause-counts g c clean =
    let early : HasCleanDisk (state g.S.Store c.gone_with_ven.new.tx.conn.now) = omega (arith, c.remove_ven.ensures.lent.stays.crash.clean) in
    on_then c.remove_ven.result (λ leaves beside base was same there.
    let found = c.in_ok-gone.ensures.finds early (kept_beside beside base) was in
    record {
      holds = leaves (kept_beside beside base) found.1;
      counted = gone_counted c.in_ok-gone.gone base (without_ven c.args.id base.portfolio) c.args.meta.now _ same (found.0 there) c.in_ok-count_gone.ensures.less;
    }) (c.remove_ven.ensures.leaves clean)
