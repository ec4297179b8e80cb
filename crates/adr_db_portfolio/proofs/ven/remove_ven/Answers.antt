use Rattle.adr_db.proofs.Common.{state, without_ven}
use Rattle.adr_db.specs.Rows.{number_row}
use Rattle.adr_db.specs.Kept.{with_portfolio}
use Rattle.adr_db.proofs.Calls.{run_leaves}
use Rattle.adr_db_portfolio.proofs.Cascades.{ven_removed}
use Rattle.adr_db_portfolio.proofs.ven.remove_ven.Goals as goal

pub returns-clause-leaves : goal.returns-clause-leaves
returns-clause-leaves g c =
    let old = c.args.tx.now.conn.now in
    let new = c.run.new.tx.conn.now in
    run_leaves g.S.Store old new _ (number_row c.args.id) (with_portfolio (without_ven c.args.id)) _ (ven_removed c.args.id (state g.S.Store old) (state g.S.Store new)) (rw (c.in_ok-number.ensures.value, c.get.ensures) at c.run.ensures.runs)
