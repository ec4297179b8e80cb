use Rattle.std.proofs.Common.{inl, inr}
use Rattle.std.proofs.lemmas.Result.{IfErr-weaker}
use Rattle.adr_db.proofs.Common.{state, with_row, rows_of_table, with_table}
use Rattle.adr_db.specs.declared.meta.TheConstants.{PUT}
use Rattle.adr_db.specs.Rows.{meta_row, meta_numbers}
use Rattle.adr_db.specs.Refusals.{IsPutRefusal}
use Rattle.adr_db.proofs.Calls.{run_changes}
use Rattle.adr_db.proofs.Results.{handed_on}
use Rattle.adr_db.proofs.MetaStatements.{meta_put}
use Rattle.adr_db.proofs.meta.write_meta.Goals as goal

pub returns-clause-changes : goal.returns-clause-changes
returns-clause-changes g c =
    let old = c.args.tx.now.conn.now in
    let new = c.run.new.tx.conn.now in
    run_changes g.S.Store old new _ (meta_numbers c.args.meta.now) (λ all. with_table all 0 (with_row 1 (meta_row c.args.meta.now) (rows_of_table all 0))) c.run.result
    (meta_put c.args.meta.now (state g.S.Store old) (state g.S.Store new))
    (rw c.in_ok-cells.ensures.cells at c.run.ensures.runs)

pub returns-in_err-cells-clause-fails : goal.returns-in_err-cells-clause-fails
returns-in_err-cells-clause-fails g c clean within =
    let old = c.args.tx.now.conn.now in
    handed_on (IsPutRefusal g.S.Store old old PUT.now (meta_numbers c.args.meta.now)) c.from_residual.result _ c.from_residual.ensures.1 (inl c.in_err-cells.ensures.refused)

pub returns-clause-fails : goal.returns-clause-fails
returns-clause-fails g c clean within =
    let old = c.args.tx.now.conn.now in
    let new = c.run.new.tx.conn.now in
    IfErr-weaker c.run.result _ (IsPutRefusal g.S.Store old new PUT.now (meta_numbers c.args.meta.now)) (λ refusal. inr) (rw c.in_ok-cells.ensures.cells at (c.run.ensures.fails clean within))
