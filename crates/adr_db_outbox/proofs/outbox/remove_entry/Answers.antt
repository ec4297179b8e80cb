use Rattle.std.proofs.Common.{inl, inr, ℕ, List, subst, arith}
use Rattle.std.proofs.lemmas.Result.{IfErr-weaker}
use Rattle.adr_db.proofs.Common.{state, HasCleanDisk, Holds}
use Rattle.adr_db.specs.Tables.{schema}
use Rattle.adr_db.specs.Kept.{heads_of, contents_with_heads, without_waiting}
use Rattle.adr_db.proofs.Results.{handed_on, on_then}
use Rattle.adr_db_outbox.proofs.RightHeads.{left_right}
use Rattle.adr_db_outbox.proofs.outbox.remove_entry.Goals as goal

pub returns-clause-leaves : goal.returns-clause-leaves
returns-clause-leaves g c clean =
    let new = state g.S.Store c.set_head_where.new.tx.conn.now in
    let second : HasCleanDisk (state g.S.Store c.remove_row.new.tx.conn.now) = omega (arith, c.set_head_where.ensures.lent.stays.crash.clean) in
    let first : HasCleanDisk (state g.S.Store c.read_destination.new.tx.conn.now) = omega (arith, second, c.remove_row.ensures.lent.stays.crash.clean) in
    let id = c.args.id in
    on_then c.set_head_where.result (λ set kept was.
    let found = c.in_ok-left.ensures.finds first kept was in
    let gone = c.in_ok-remove_row.ensures.changes second kept (heads_of kept.entries) found.1.rows in
    record {
      rows = subst (λ (heads : List (ℕ × ℕ)). Holds schema (contents_with_heads heads (without_waiting id kept)) new) (left_right id kept c.in_ok-left.left found.0) (set (without_waiting id kept) (heads_of kept.entries) gone);
      marks = was.marks;
      subs = was.subs;
    }) (c.set_head_where.ensures.changes clean)

pub returns-in_err-left-clause-fails : goal.returns-in_err-left-clause-fails
returns-in_err-left-clause-fails g c clean inside = handed_on _ c.from_residual.result _ c.from_residual.ensures.1 (inl (c.in_err-left.ensures.fails clean))

pub returns-in_err-remove_row-clause-fails : goal.returns-in_err-remove_row-clause-fails
returns-in_err-remove_row-clause-fails g c clean inside =
    let mid = c.read_destination.new.tx.conn.now in
    let early : HasCleanDisk (state g.S.Store mid) = omega (arith, clean, c.remove_row.ensures.lent.stays.crash.clean) in
    handed_on _ c.from_residual-in_err-remove_row.result _ c.from_residual-in_err-remove_row.ensures.1 (inr (inl (mid, c.in_err-remove_row.ensures.fails clean (c.in_ok-left.ensures.lent.stays.inside early inside))))

pub returns-clause-fails : goal.returns-clause-fails
returns-clause-fails g c clean inside =
    let second : HasCleanDisk (state g.S.Store c.remove_row.new.tx.conn.now) = omega (arith, c.set_head_where.ensures.lent.stays.crash.clean) in
    let first : HasCleanDisk (state g.S.Store c.read_destination.new.tx.conn.now) = omega (arith, second, c.remove_row.ensures.lent.stays.crash.clean) in
    IfErr-weaker c.set_head_where.result _ _ (λ e why. inr (inr why)) (c.set_head_where.ensures.fails clean (c.in_ok-remove_row.ensures.lent.stays.inside second (c.in_ok-left.ensures.lent.stays.inside first inside)))
