use Rattle.std.proofs.Common.{[], inr, arith, subst}
use Rattle.adr_sql.specs.Schemas.{no_schema}
use Rattle.std.proofs.lemmas.Result.{IfErr-weaker}
use Rattle.adr_db.proofs.Common.{state, HasCleanDisk}
use Rattle.adr_db.specs.declared.meta.Meta.{Meta}
use Rattle.adr_db.specs.Tables.{tables}
use Rattle.adr_db.specs.Kept.{Keeps, nothing_kept, with_meta}
use Rattle.adr_db.proofs.Results.{on_then}
use Rattle.adr_db.proofs.Creating.{make_tables}
use Rattle.adr_db.proofs.schema.create.Goals as goal

pub returns-in-Ok-clause-made : goal.returns-in-Ok-clause-made
returns-in-Ok-clause-made g c clean =
    let new = state g.S.Store c.write_meta.new.tx.conn.now in
    let early : HasCleanDisk (state g.S.Store c.create_tables.new.tx.conn.now) = omega (arith, c.write_meta.ensures.lent.stays.crash.clean) in
    on_then c.write_meta.result (λ change empty. subst (λ (m : Meta). Keeps (with_meta m nothing_kept) new) c.first.ensures (record { rows = change _ (c.in-Ok.ensures.made early no_schema [] tables make_tables empty); marks = tt; subs = tt })) (c.write_meta.ensures.changes clean)

pub returns-in-Ok-clause-fails : goal.returns-in-Ok-clause-fails
returns-in-Ok-clause-fails g c clean inside =
    let mid = c.create_tables.new.tx.conn.now in
    let early : HasCleanDisk (state g.S.Store mid) = omega (arith, c.write_meta.ensures.lent.stays.crash.clean) in
    IfErr-weaker c.write_meta.result _ _ (λ e why. inr (mid, why)) (rw c.first.ensures at c.write_meta.ensures.fails clean (c.in-Ok.ensures.lent.stays.inside early inside))
