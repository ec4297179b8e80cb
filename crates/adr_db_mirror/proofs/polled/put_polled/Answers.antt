use Rattle.std.proofs.Common.{subst}
use Rattle.adr_db.specs.Kept.{Kept}
use Rattle.adr_db.specs.Calls.{LeavesKept}
use Rattle.adr_db.proofs.KeptMaps.{put_leaves}
use Rattle.adr_db.proofs.Maps.{polled_map}
use Rattle.adr_db_mirror.proofs.PolledKeys.{with_key}
use Rattle.adr_db_mirror.proofs.PolledStatements.{puts, values}
use Rattle.adr_db_mirror.proofs.polled.put_polled.Goals as goal

pub returns-clause-leaves : goal.returns-clause-leaves
returns-clause-leaves g c =
    let old = c.args.tx.now.conn.now in
    let new = c.run.new.tx.conn.now in
    let key = c.args.key.now in
    subst (λ (change : Kept → Kept). LeavesKept g.S.Store old new change c.run.result) (with_key key) (put_leaves polled_map g.S.Store old new _ _ key tt _ (puts key) (values key) (λ kept are. are) (rw (c.to_sql.ensures, c.kind_number.ensures, c.to_sql-2.ensures, c.as_str.ensures.text) at c.run.ensures.runs))
