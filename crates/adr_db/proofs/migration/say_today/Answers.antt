use Rattle.std.proofs.Common.{List, subst, arith}
use Rattle.adr_db.proofs.Common.{state, HasCleanDisk, Row, Holds, rows_of_table, with_table}
use Rattle.adr_db.specs.Tables.{schema}
use Rattle.adr_db.proofs.Results.{on_then}
use Rattle.adr_db.proofs.FirstVersion.{said_row}
use Rattle.adr_db.proofs.migration.say_today.Goals as goal

pub returns-clause-said : goal.returns-clause-said
returns-clause-said g c clean =
    let new = state g.S.Store c.write_meta.new.tx.conn.now in
    let early : HasCleanDisk (state g.S.Store c.read_first.new.tx.conn.now) = omega (arith, c.write_meta.ensures.lent.stays.crash.clean) in
    on_then c.write_meta.result (λ change said all was says.
    let found = c.in_ok-meta.ensures.finds early said all was says in
    subst (λ (rows : List Row). Holds schema (with_table all 0 rows) new) (said_row c.in_ok-meta.meta said (rows_of_table all 0) found.0 says) (change all found.1)) (c.write_meta.ensures.changes clean)
