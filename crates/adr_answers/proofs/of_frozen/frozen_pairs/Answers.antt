use Rattle.std.proofs.Common.{Bool, true, false, cond, Ok, Err, sym, ap, ◌∙◌, arith}
use Rattle.adr_db.proofs.Common.{state, HasCleanDisk}
use Rattle.adr_db.proofs.Results.{ok_then}
use Rattle.adr_text.specs.declared.refusal.Refusal.TheVariants.{NotFound}
use Rattle.adr_state.specs.Frozen.{pairs_kept}
use Rattle.adr_answers.proofs.of_frozen.frozen_pairs.Goals as goal

pub returns-then-not-is_kept-clause-refuses : goal.returns-then-not-is_kept-clause-refuses
returns-then-not-is_kept-clause-refuses g c clean kept was =
    let found = c.in_ok-is_kept.ensures.finds clean kept was in
    ap (λ (b : Bool). cond b (Ok (pairs_kept kept.portfolio c.args.event.now)) (Err NotFound)) (sym found.0 ∙ c.if-not-is_kept.true)

pub returns-clause-finds : goal.returns-clause-finds
returns-clause-finds g c clean =
    let early : HasCleanDisk (state g.S.Store c.is_frozen.new.tx.conn.now) = omega (arith, c.pairs_kept.ensures.lent.stays.crash.clean) in
    ok_then c.pairs_kept.result (λ pairs finds kept was.
    let frozen = c.in_ok-is_kept.ensures.finds early kept was in
    let found = finds kept frozen.1 in
    (rw (sym frozen.0 ∙ c.if-not-is_kept.false) (ap Ok (sym found.0)), found.1)) (c.pairs_kept.ensures.finds clean)
