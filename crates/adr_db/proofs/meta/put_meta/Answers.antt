use Rattle.sqlite.specs.Held.{state}
use Rattle.adr_db.specs.Kept.{contents_of}
use Rattle.adr_db.proofs.Results.{on_then}
use Rattle.adr_db.proofs.MetaStatements.{keeps_meta}
use Rattle.adr_db.proofs.meta.put_meta.Goals as goal

pub returns-clause-leaves : goal.returns-clause-leaves
returns-clause-leaves g c clean =
    let old = state g.S.Store c.args.tx.now.conn.now in
    let new = state g.S.Store c.write_meta.new.tx.conn.now in
    on_then c.write_meta.result (λ change kept was. keeps_meta c.args.meta.now kept old new was (change (contents_of kept) was.rows)) (c.write_meta.ensures.changes clean)
