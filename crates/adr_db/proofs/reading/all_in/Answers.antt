use Rattle.std.proofs.Common.{◌≡◌, ◌+◌, [], ◌∷◌, ◌++◌, take, sym, ap, subst, ◌∙◌}
use Rattle.adr_db.proofs.Common.{AllZip, take_more}
use Rattle.adr_db.proofs.Results.{handed_on}
use Rattle.adr_db.proofs.Unread.{rows_unread}
use Rattle.sqlite_rules.proofs.PlaceLemmas.{zip_more}
use Rattle.adr_db.proofs.reading.all_in.Goals as goal

pub rows-preserved : goal.rows-preserved
rows-preserved g c =
    let rows = c.args.rows.now in
    let same : take c.rows.row-index rows ++ c.row-item.result ∷ [] ≡ take (c.rows.row-index + 1) rows = ap (λ row. take c.rows.row-index rows ++ row ∷ []) c.row-item.is ∙ sym (take_more rows c.rows.row-index c.row-item.result c.rows-test.true) in
    rw c.in_ok-push.ensures.ok (subst (λ rows. AllZip g.T.FromRow.reads rows (c.rows.all ++ c.in_ok-from_row.field-0 ∷ [])) same (zip_more g.T.FromRow.reads _ c.rows.all c.row-item.result c.in_ok-from_row.field-0 c.rows.invariant c.in_ok-from_row.ensures.reads))

pub returns-in_err-from_row-clause-refused : goal.returns-in_err-from_row-clause-refused
returns-in_err-from_row-clause-refused g c =
    handed_on _ c.from_residual.result _ c.from_residual.ensures.1
    (rows_unread g.T.FromRow.admits g.T.FromRow.reads c.args.rows.now c.rows.row-index c.row-item.result c.in_err-from_row.field-0.0 c.rows-test.true c.row-item.is c.in_err-from_row.ensures.refused)
