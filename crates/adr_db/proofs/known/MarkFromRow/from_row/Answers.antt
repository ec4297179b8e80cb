use Rattle.std.proofs.Common.{Result, Ok, Err, IfOk, OnOk, ◌≡◌}
use Rattle.adr_db.proofs.Common.{Refusal, Mark, Gives, Row, cells}
use Rattle.adr_db.specs.declared.known.MarkColumns.{MarkColumns}
use Rattle.adr_db.specs.Admitted.{AreColumns, ReadsMark}
use Rattle.adr_db.specs.Rows.{columns_row, mark_from}
use Rattle.adr_db.proofs.known.MarkFromRow.from_row.Goals as goal

reads : (row : Row) (columns : MarkColumns) (r : Result Mark Refusal) → OnOk r (AreColumns columns) → columns_row columns ≡ cells 2 3 row → Gives (λ mark. mark) r (mark_from columns) → IfOk r (ReadsMark row)
reads row columns (Ok mark) are same gives = (columns, are, same, gives)
reads row columns (Err e) are same gives = tt

pub returns-clause-reads : goal.returns-clause-reads
returns-clause-reads c = reads c.args.row.now c.in_ok-columns.columns c.mark_from.result c.mark_from.ensures.admitted c.in_ok-columns.ensures.reads c.mark_from.ensures.mark
