use Rattle.std.proofs.Common.{inl, inr, ℕ, Option, subst, sym, arith, ◌∙◌}
use Rattle.std.proofs.lemmas.Result.{IfErr-weaker}
use Rattle.adr_db.proofs.Common.{state, HasCleanDisk, Holds}
use Rattle.adr_db.specs.Tables.{schema}
use Rattle.adr_db.specs.Kept.{contents_with_heads}
use Rattle.adr_db.proofs.Results.{handed_on, on_then}
use Rattle.adr_db_outbox.specs.Heads.{with_head}
use Rattle.adr_db_outbox.proofs.heads.set_head.Goals as goal

pub returns-in-Some-clause-changes : goal.returns-in-Some-clause-changes
returns-in-Some-clause-changes g c clean =
    let early : HasCleanDisk (state g.S.Store c.read_first.new.tx.conn.now) = omega (arith, c.put_head.ensures.lent.stays.crash.clean) in
    on_then c.put_head.result (λ put kept heads was.
    let found = c.in_ok-first.ensures.finds early kept heads was in
    subst (λ (n : Option ℕ). Holds schema (contents_with_heads (with_head c.args.dest n heads) kept) (state g.S.Store c.put_head.new.tx.conn.now)) (sym c.in-Some.is ∙ found.0) (put kept heads found.1)) (c.put_head.ensures.changes clean)

pub returns-in-None-clause-changes : goal.returns-in-None-clause-changes
returns-in-None-clause-changes g c clean =
    let early : HasCleanDisk (state g.S.Store c.read_first.new.tx.conn.now) = omega (arith, c.remove_head.ensures.lent.stays.crash.clean) in
    on_then c.remove_head.result (λ put kept heads was.
    let found = c.in_ok-first.ensures.finds early kept heads was in
    subst (λ (n : Option ℕ). Holds schema (contents_with_heads (with_head c.args.dest n heads) kept) (state g.S.Store c.remove_head.new.tx.conn.now)) (sym c.in-None.is ∙ found.0) (put kept heads found.1)) (c.remove_head.ensures.changes clean)

pub returns-in_err-first-clause-fails : goal.returns-in_err-first-clause-fails
returns-in_err-first-clause-fails g c clean inside = handed_on _ c.from_residual.result _ c.from_residual.ensures.1 (inl (c.in_err-first.ensures.fails clean))

pub returns-in-Some-clause-fails : goal.returns-in-Some-clause-fails
returns-in-Some-clause-fails g c clean inside =
    let mid = c.read_first.new.tx.conn.now in
    let early : HasCleanDisk (state g.S.Store mid) = omega (arith, c.put_head.ensures.lent.stays.crash.clean) in
    IfErr-weaker c.put_head.result _ _ (λ e why. inr (mid, inl (c.in-Some.entry, why))) (c.put_head.ensures.fails clean (c.in_ok-first.ensures.lent.stays.inside early inside))

pub returns-in-None-clause-fails : goal.returns-in-None-clause-fails
returns-in-None-clause-fails g c clean inside =
    let mid = c.read_first.new.tx.conn.now in
    let early : HasCleanDisk (state g.S.Store mid) = omega (arith, c.remove_head.ensures.lent.stays.crash.clean) in
    IfErr-weaker c.remove_head.result _ _ (λ e why. inr (mid, inr why)) (c.remove_head.ensures.fails clean (c.in_ok-first.ensures.lent.stays.inside early inside))
