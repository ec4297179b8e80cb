use Rattle.std.proofs.Common.{◌∷◌, [], subst}
use Rattle.adr_db.proofs.Common.{Int, Runs}
use Rattle.adr_db_portfolio.specs.declared.report_value.TheConstants.{PUT}
use Rattle.adr_db.specs.Rows.{number}
use Rattle.adr_db_portfolio.proofs.ReportStatements.{value_put}
use Rattle.adr_db_portfolio.proofs.report_value.put_value.Goals as goal

pub returns-clause-changes : goal.returns-clause-changes
returns-clause-changes g c =
    let old = c.args.tx.now.conn.now in
    let new = c.run.new.tx.conn.now in
    value_put g.S.Store old new c.args.report c.args.place c.args.interval.now _
    (subst (λ cell. Runs g.S.Store old new PUT.now (number c.args.report ∷ number c.args.place ∷ Int c.args.interval.now.id ∷ cell ∷ []) c.run.result) c.usage_cell.ensures
    (rw (c.in_ok-number.ensures.value, c.get.ensures, c.in_ok-number-2.ensures.value, c.id_cell.ensures) at c.run.ensures.runs))
