use Rattle.adr_db.specs.Kept.{with_portfolio}
use Rattle.adr_db.specs.Rows.{event_key_row}
use Rattle.adr_db.proofs.Common.{state}
use Rattle.adr_db.proofs.Calls.{run_leaves}
use Rattle.adr_db_portfolio.specs.Frozen.{without_frozen_shares}
use Rattle.adr_db_portfolio.proofs.FrozenRows.{shares_removed}
use Rattle.adr_db_portfolio.proofs.frozen_share.remove_frozen_shares.Goals as goal

pub returns-clause-leaves : goal.returns-clause-leaves
returns-clause-leaves g c =
    let event = c.args.event.now in
    let old = c.args.tx.now.conn.now in
    let new = c.run.new.tx.conn.now in
    run_leaves g.S.Store old new _ (event_key_row event) (with_portfolio (without_frozen_shares event)) c.run.result (shares_removed event (state g.S.Store old) (state g.S.Store new)) (rw (c.to_sql.ensures, c.as_str.ensures.text) at c.run.ensures.runs)
