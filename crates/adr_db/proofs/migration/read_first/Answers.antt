use Rattle.std.proofs.Common.{List, [], ◌∷◌, take, subst}
use Rattle.adr_db.proofs.Common.{AllZip, Row, state, holds_still}
use Rattle.adr_db.specs.declared.meta.TheConstants.{READ}
use Rattle.adr_db.specs.Tables.{schema}
use Rattle.adr_db.specs.Admitted.{ReadsFirst}
use Rattle.adr_db.proofs.MetaStatements.{reads}
use Rattle.adr_db.proofs.FirstVersion.{first_read, first_kept}
use Rattle.adr_db.proofs.migration.read_first.Goals as goal

pub returns-in-Some-clause-finds : goal.returns-in-Some-clause-finds
returns-in-Some-clause-finds g c clean said all was says =
    let old = state g.S.Store c.args.tx.now.conn.now in
    let new = state g.S.Store c.rows_of.new.tx.conn.now in
    let shown = c.in_ok-rows.ensures.answers clean in
    let IsRead : List Row → Type 0 = λ rows. AllZip ReadsFirst (take 1 rows) (c.in-Some.first ∷ []) in
    let read : IsRead _ = rw (c.deref.ensures.value, c.in-Some.is) at c.in_ok-found.ensures.read in
    (first_kept c.in-Some.first.numbers said (subst IsRead (first_read old new _ all said shown was says) read).0, holds_still schema READ.now [] old new _ all reads.alone shown was)
