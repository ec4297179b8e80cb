use Rattle.std.proofs.Common.{inl, inr}
use Rattle.std.specs.Prelude.{⊤}
use Rattle.adr_db.proofs.Common.{Row, column, Refusal}
use Rattle.adr_db.specs.Refusals.{CannotRead}
use Rattle.adr_db.specs.Admitted.{IsKeptSub, ReadsBody, ReadsSub}
use Rattle.adr_db.proofs.Results.{handed_on}
use Rattle.adr_db.proofs.sub.SubFromRow.from_row.Goals as goal

-- a row whose text reads as no body reads as no subscription
body_unread : (row : Row) (e : Refusal) → CannotRead (λ body. ⊤) ReadsBody (column row 2) e → CannotRead IsKeptSub ReadsSub row e
body_unread row e (inl memory) = inl memory
body_unread row e (inr none) = inr (none.0, λ sub are reads. none.1 sub.body tt reads.1.0)

pub returns-in_err-body_in-clause-refused : goal.returns-in_err-body_in-clause-refused
returns-in_err-body_in-clause-refused c = handed_on _ c.from_residual-in_err-body_in.result c.in_err-body_in.field-0.0 c.from_residual-in_err-body_in.ensures.1 (body_unread c.args.row.now _ c.in_err-body_in.ensures.refused)
