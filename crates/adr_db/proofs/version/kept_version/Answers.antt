use Rattle.std.proofs.Common.{[], sym, subst}
use Rattle.adr_db.proofs.Common.{state, understood}
use Rattle.sqlite.specs.Given.{IsPlain}
use Rattle.sqlite.specs.Schema.{Schema}
use Rattle.adr_db.specs.declared.version.TheConstants.{READ}
use Rattle.adr_db.proofs.Understood.{not_of_text}
use Rattle.adr_db.proofs.VersionStatement.{reads, known_by, unknown_by}
use Rattle.adr_db.proofs.version.kept_version.Goals as goal

pub returns-in-Err-SqlInputError-clause-unknown : goal.returns-in-Err-SqlInputError-clause-unknown
returns-in-Err-SqlInputError-clause-unknown g c clean same of all was said =
    not_of_text READ.now [] (state g.S.Store c.args.tx.now.conn.now) (state g.S.Store c.rows_of.new.tx.conn.now) _ (subst (λ (s : Schema). IsPlain (understood s READ.now)) (sym was.has) (reads of).alone)
    (rw c.in-Err-SqlInputError.field-0-is at c.in-Err-SqlInputError.ensures.fails clean)

pub returns-clause-known : goal.returns-clause-known
returns-clause-known g c clean =
    known_by (state g.S.Store c.args.tx.now.conn.now) (state g.S.Store c.rows_of.new.tx.conn.now) _ c.known.result (c.in-Ok.ensures.answers clean) (rw c.deref.ensures.value at c.known.ensures.says)

pub returns-clause-unknown : goal.returns-clause-unknown
returns-clause-unknown g c clean =
    unknown_by (state g.S.Store c.args.tx.now.conn.now) (state g.S.Store c.rows_of.new.tx.conn.now) _ c.known.result (c.in-Ok.ensures.answers clean) (rw c.deref.ensures.value at c.known.ensures.refused)
