use Rattle.std.proofs.Common.{◌≡◌, ◌⊎◌, inl, inr, ℕ, pos, sym, ap, ◌∙◌}
use Rattle.adr_db.proofs.Common.{Null, Int, Row, column, Refusal}
use Rattle.adr_db.specs.declared.report_columns.ReportColumns.{ReportColumns}
use Rattle.adr_db.specs.Rows.{number}
use Rattle.adr_db.specs.Refusals.{IsMisread, CannotRead}
use Rattle.adr_db.specs.Admitted.{AreReportColumns, ReadsReportColumns}
use Rattle.adr_db.proofs.Results.{handed_on}
use Rattle.adr_db.proofs.report_columns.ReportColumnsFromRow.from_row.Goals as goal

-- a row without a revision reads as no report
revision_unread : (row : Row) (e : Refusal) → IsMisread (λ value. (n : ℕ) × (value ≡ Int (pos n))) (column row 7) e → CannotRead AreReportColumns ReadsReportColumns row e
revision_unread row e (inl memory) = inl memory
revision_unread row e (inr (is, why)) = inr (is, λ columns are reads. none columns (ap (λ r. column r 6) reads) why)
  where
    none : (columns : ReportColumns) → number columns.revision ≡ column row 7 → ¬ ((column row 7 ≡ Null) ⊎ (¬ ((n : ℕ) × (column row 7 ≡ Int (pos n)))))
    none columns is (inl null) = let both : number columns.revision ≡ Null = is ∙ null in absurd cc
    none columns is (inr unreadable) = unreadable (columns.revision, sym is)

pub returns-in_err-column-2-clause-refused : goal.returns-in_err-column-2-clause-refused
returns-in_err-column-2-clause-refused c = handed_on _ c.from_residual-in_err-column-2.result c.in_err-column-2.field-0.0 c.from_residual-in_err-column-2.ensures.1 (revision_unread c.args.row.now _ c.in_err-column-2.ensures.refused)
