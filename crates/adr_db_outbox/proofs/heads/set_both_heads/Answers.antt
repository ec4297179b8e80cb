use Rattle.std.proofs.Common.{◌≡◌, ◌==◌, true, false, sym, arith, ◌∙◌}
use Rattle.std.proofs.lemmas.Result.{IfErr-weaker}
use Rattle.std.specs.Option.{option_map_or}
use Rattle.adr_db.proofs.Common.{state, HasCleanDisk}
use Rattle.adr_db.proofs.Results.{handed_on, on_then}
use Rattle.adr_db_outbox.proofs.heads.set_both_heads.Goals as goal

pub returns-then-is_same-clause-changes : goal.returns-then-is_same-clause-changes
returns-then-is_same-clause-changes g c clean kept heads was =
    let same : option_map_or (λ dest. dest == c.args.reached) c.args.left false ≡ true = sym c.is_same.ensures ∙ c.if-is_same.true in
    rw same was

pub returns-clause-changes : goal.returns-clause-changes
returns-clause-changes g c clean =
    let early : HasCleanDisk (state g.S.Store c.set_head_where.new.tx.conn.now) = omega (arith, c.set_head.ensures.lent.stays.crash.clean) in
    let other : option_map_or (λ dest. dest == c.args.reached) c.args.left false ≡ false = sym c.is_same.ensures ∙ c.if-is_same.false in
    on_then c.set_head.result (λ set kept heads was. rw other (set kept _ (c.in_ok-set_head_where.ensures.changes early kept heads was))) (c.set_head.ensures.changes clean)

pub returns-in_err-set_head_where-clause-fails : goal.returns-in_err-set_head_where-clause-fails
returns-in_err-set_head_where-clause-fails g c clean inside = handed_on _ c.from_residual.result _ c.from_residual.ensures.1 (c.in_err-set_head_where.ensures.fails clean inside)

pub returns-clause-fails : goal.returns-clause-fails
returns-clause-fails g c clean inside =
    let mid = c.set_head_where.new.tx.conn.now in
    let early : HasCleanDisk (state g.S.Store mid) = omega (arith, c.set_head.ensures.lent.stays.crash.clean) in
    IfErr-weaker c.set_head.result _ _ (λ e why. (mid, c.args.reached, why)) (c.set_head.ensures.fails clean (c.in_ok-set_head_where.ensures.lent.stays.inside early inside))
