use Rattle.std.proofs.Common.{inl, inr, ℕ, List, subst, arith}
use Rattle.std.proofs.lemmas.Result.{IfErr-weaker}
use Rattle.adr_db.proofs.Common.{state, HasCleanDisk, Holds}
use Rattle.adr_db.specs.Tables.{schema}
use Rattle.adr_db.specs.Kept.{heads_of, contents_with_heads, with_waiting}
use Rattle.adr_db.proofs.Results.{handed_on, on_then}
use Rattle.adr_db.proofs.Rises.{waiting_rises}
use Rattle.adr_db_outbox.proofs.RightHeads.{put_right}
use Rattle.adr_db_outbox.proofs.outbox.put_entry.Goals as goal

pub returns-clause-leaves : goal.returns-clause-leaves
returns-clause-leaves g c clean =
    let old = state g.S.Store c.args.tx.now.conn.now in
    let new = state g.S.Store c.set_both_heads.new.tx.conn.now in
    let second : HasCleanDisk (state g.S.Store c.put_row.new.tx.conn.now) = omega (arith, c.set_both_heads.ensures.lent.stays.crash.clean) in
    let first : HasCleanDisk (state g.S.Store c.read_destination.new.tx.conn.now) = omega (arith, second, c.put_row.ensures.lent.stays.crash.clean) in
    let id = c.args.id in
    let entry = c.args.entry.now in
    on_then c.set_both_heads.result (λ set kept was.
    let found = c.in_ok-left.ensures.finds first kept was in
    let put = c.in_ok-put_row.ensures.changes second kept (heads_of kept.entries) found.1.rows in
    record {
      rows = subst (λ (heads : List (ℕ × ℕ)). Holds schema (contents_with_heads heads (with_waiting id entry kept)) new) (put_right id kept entry (waiting_rises kept old was) c.in_ok-left.left found.0)
          (set (with_waiting id entry kept) (heads_of kept.entries) put);
      marks = was.marks;
      subs = was.subs;
    }) (rw c.destination.ensures at c.set_both_heads.ensures.changes clean)

pub returns-in_err-left-clause-fails : goal.returns-in_err-left-clause-fails
returns-in_err-left-clause-fails g c clean inside = handed_on _ c.from_residual.result _ c.from_residual.ensures.1 (inl (c.in_err-left.ensures.fails clean))

pub returns-in_err-put_row-clause-fails : goal.returns-in_err-put_row-clause-fails
returns-in_err-put_row-clause-fails g c clean inside =
    let mid = c.read_destination.new.tx.conn.now in
    let early : HasCleanDisk (state g.S.Store mid) = omega (arith, clean, c.put_row.ensures.lent.stays.crash.clean) in
    handed_on _ c.from_residual-in_err-put_row.result _ c.from_residual-in_err-put_row.ensures.1 (inr (inl (mid, c.in_err-put_row.ensures.fails clean (c.in_ok-left.ensures.lent.stays.inside early inside))))

pub returns-clause-fails : goal.returns-clause-fails
returns-clause-fails g c clean inside =
    let second : HasCleanDisk (state g.S.Store c.put_row.new.tx.conn.now) = omega (arith, c.set_both_heads.ensures.lent.stays.crash.clean) in
    let first : HasCleanDisk (state g.S.Store c.read_destination.new.tx.conn.now) = omega (arith, second, c.put_row.ensures.lent.stays.crash.clean) in
    IfErr-weaker c.set_both_heads.result _ _ (λ e why. inr (inr why)) (c.set_both_heads.ensures.fails clean (c.in_ok-put_row.ensures.lent.stays.inside second (c.in_ok-left.ensures.lent.stays.inside first inside)))
