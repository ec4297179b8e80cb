use Rattle.std.proofs.Common.{◌≡◌, true, false, inl, inr, sym, arith, ◌∙◌}
use Rattle.std.proofs.lemmas.Result.{IfErr-weaker}
use Rattle.adr_db.proofs.Common.{state, HasCleanDisk}
use Rattle.adr_db.proofs.Results.{ok_then}
use Rattle.adr_state.specs.Frozen.{is_frozen}
use Rattle.adr_db_portfolio.proofs.Participating.{participants_are, frozen_are}
use Rattle.adr_db_portfolio.proofs.participant.Sharers.participants.Goals as goal

-- of an event that is frozen
pub returns-then-branch-clause-finds : goal.returns-then-branch-clause-finds
returns-then-branch-clause-finds g c clean =
    let early : HasCleanDisk (state g.S.Store c.is_frozen.new.tx.conn.now) = omega (arith, c.read_frozen_sharers.ensures.lent.stays.crash.clean) in
    ok_then c.read_frozen_sharers.result (λ all finds kept was right.
    let frozen = c.in_ok-is_frozen.ensures.finds early kept was in
    let is : is_frozen kept.portfolio c.args.id.now ≡ true = sym frozen.0 ∙ c.if-branch.true in
    let found = finds kept frozen.1 in
    (found.0 ∙ sym (frozen_are kept c.args.event.now c.args.id.now _ was is), right, found.1)) (c.read_frozen_sharers.ensures.finds clean)

pub returns-then-branch-clause-fails : goal.returns-then-branch-clause-fails
returns-then-branch-clause-fails g c clean = IfErr-weaker c.read_frozen_sharers.result _ _ (λ e why. inr (c.is_frozen.new.tx.conn.now, inl why)) (c.read_frozen_sharers.ensures.fails clean)

-- and of one that is not
pub returns-clause-finds : goal.returns-clause-finds
returns-clause-finds g c clean =
    let early : HasCleanDisk (state g.S.Store c.is_frozen.new.tx.conn.now) = omega (arith, c.sharing.ensures.lent.stays.crash.clean) in
    ok_then c.sharing.result (λ all finds kept was right.
    let frozen = c.in_ok-is_frozen.ensures.finds early kept was in
    let free : is_frozen kept.portfolio c.args.id.now ≡ false = sym frozen.0 ∙ c.if-branch.false in
    let found = finds kept frozen.1 right in
    (found.0 ∙ sym (participants_are kept c.args.event.now c.args.id.now _ was free), found.1, found.2)) (c.sharing.ensures.finds clean)

pub returns-clause-fails : goal.returns-clause-fails
returns-clause-fails g c clean = IfErr-weaker c.sharing.result _ _ (λ e why. inr (c.is_frozen.new.tx.conn.now, inr why)) (c.sharing.ensures.fails clean)
