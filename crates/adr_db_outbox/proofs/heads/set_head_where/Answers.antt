use Rattle.std.proofs.lemmas.Result.{IfErr-weaker}
use Rattle.adr_db_outbox.proofs.heads.set_head_where.Goals as goal

pub returns-in-Some-clause-changes : goal.returns-in-Some-clause-changes
returns-in-Some-clause-changes g c = rw c.in-Some.is c.set_head.ensures.changes

pub returns-in-Some-clause-fails : goal.returns-in-Some-clause-fails
returns-in-Some-clause-fails g c clean inside = IfErr-weaker c.set_head.result _ _ (λ e why. (c.args.tx.now.conn.now, c.in-Some.dest, why)) (c.set_head.ensures.fails clean inside)
