use Rattle.std.proofs.Common.{refl}
use Rattle.adr_db.proofs.Common.{nat_cmp}
use Rattle.adr_subscription.specs.Types.{IsSub}
use Rattle.adr_db.proofs.Entries.{entries_left}
use Rattle.adr_db.proofs.Tables.{sub_childless}
use Rattle.adr_db.proofs.KeptMaps.{remove_leaves}
use Rattle.adr_db.proofs.Maps.{sub_map}
use Rattle.adr_db_portfolio.proofs.SubStatements.{texts}
use Rattle.adr_db_portfolio.proofs.sub.remove_sub.Goals as goal

pub returns-clause-leaves : goal.returns-clause-leaves
returns-clause-leaves g c =
    remove_leaves sub_map g.S.Store c.args.tx.now.conn.now c.run.new.tx.conn.now _ c.args.id _ refl sub_childless texts.removes (λ kept are. (are.0, entries_left nat_cmp (λ sub. IsSub sub.body) kept.portfolio.subs c.args.id are.1))
    (rw (c.in_ok-number.ensures.value, c.get.ensures) at c.run.ensures.runs)
