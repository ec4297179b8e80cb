use Rattle.adr_db.proofs.KeptMaps.{put_leaves}
use Rattle.adr_db.proofs.Maps.{frozen_map}
use Rattle.adr_db_portfolio.proofs.FrozenStatements.{event_puts, event_values}
use Rattle.adr_db_portfolio.proofs.frozen.put_frozen.Goals as goal

pub returns-clause-leaves : goal.returns-clause-leaves
returns-clause-leaves g c =
    let event = c.args.event.now in
    put_leaves frozen_map g.S.Store c.args.tx.now.conn.now c.run.new.tx.conn.now _ _ event tt _ (event_puts event) (event_values event) (λ kept are. are) (rw (c.to_sql.ensures, c.as_str.ensures.text) at c.run.ensures.runs)
