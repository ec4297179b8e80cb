use Rattle.std.proofs.Common.{inl, inr, ℕ}
use Rattle.std.proofs.lemmas.Result.{IfErr-weaker}
use Rattle.sqlite.specs.Values.{bound_value}
use Rattle.sqlite_value.specs.Value.{owned}
use Rattle.adr_delivery.specs.declared.entry.Entry.{Entry}
use Rattle.adr_db.proofs.Common.{Runs}
use Rattle.adr_db_outbox.specs.declared.outbox.TheConstants.{PUT}
use Rattle.adr_db.specs.Refusals.{RefusesToRun}
use Rattle.adr_db.proofs.Results.{handed_on}
use Rattle.adr_db_outbox.proofs.OutboxStatements.{row_put, with_cells}
use Rattle.adr_db_outbox.proofs.outbox.put_row.Goals as goal

pub returns-clause-changes : goal.returns-clause-changes
returns-clause-changes g c =
    let old = c.args.tx.now.conn.now in
    let new = c.run.new.tx.conn.now in
    let entry = c.args.entry.now in
    let e : ℕ × Entry = (c.args.id, entry) in
    row_put g.S.Store old new e _
    (with_cells (λ row. Runs g.S.Store old new PUT.now row c.run.result) e (bound_value (owned c.event_cell.result)) (bound_value (owned c.token_cell.result)) c.event_cell.ensures c.token_cell.ensures
    (rw (c.in_ok-number.ensures.value, c.get.ensures, c.in_ok-number-2.ensures.value, c.get-2.ensures, c.destination.ensures, c.to_sql.ensures, c.operation_number.ensures, c.to_sql-2.ensures, c.address_of.ensures, c.to_sql-3.ensures, c.as_str.ensures, c.to_sql-4.ensures, c.get-3.ensures.value, c.in_ok-number-3.ensures.value, c.to_sql-5.ensures, c.is_some.ensures, c.in_ok-number-4.ensures.value, c.lease_end.ensures, c.in_ok-number-5.ensures.value, c.nanos.ensures.value) at c.run.ensures.runs))

-- the number of leases is the ninth value
pub returns-in_err-number-3-clause-fails : goal.returns-in_err-number-3-clause-fails
returns-in_err-number-3-clause-fails g c clean inside =
    let refused = c.in_err-number-3.ensures.refused in
    handed_on _ c.from_residual-in_err-number-3.result c.in_err-number-3.field-0.0 c.from_residual-in_err-number-3.ensures.1 (inl (refused.0, inr (inr (inr (inr (inr (inr (inr (inr (inl refused.1))))))))))

pub returns-clause-fails : goal.returns-clause-fails
returns-clause-fails g c clean inside =
    let old = c.args.tx.now.conn.now in
    let new = c.run.new.tx.conn.now in
    let e : ℕ × Entry = (c.args.id, c.args.entry.now) in
    IfErr-weaker c.run.result _ _ (λ refusal why. inr why)
    (with_cells (λ row. RefusesToRun g.S.Store old new PUT.now row c.run.result) e (bound_value (owned c.event_cell.result)) (bound_value (owned c.token_cell.result)) c.event_cell.ensures c.token_cell.ensures
    (rw (c.in_ok-number.ensures.value, c.get.ensures, c.in_ok-number-2.ensures.value, c.get-2.ensures, c.destination.ensures, c.to_sql.ensures, c.operation_number.ensures, c.to_sql-2.ensures, c.address_of.ensures, c.to_sql-3.ensures, c.as_str.ensures, c.to_sql-4.ensures, c.get-3.ensures.value, c.in_ok-number-3.ensures.value, c.to_sql-5.ensures, c.is_some.ensures, c.in_ok-number-4.ensures.value, c.lease_end.ensures, c.in_ok-number-5.ensures.value, c.nanos.ensures.value) at c.run.ensures.fails) clean inside)
