use Rattle.std.proofs.Common.{◌≡◌, Bool, true, false, cond, sym, ap, ◌∙◌, arith}
use Rattle.std.specs.Prelude.{is_some}
use Rattle.adr_db.proofs.Common.{HasCleanDisk, state}
use Rattle.adr_db.proofs.Results.{ok_then}
use Rattle.adr_state.specs.Frozen.{is_frozen, frozen_weight}
use Rattle.adr_state.specs.Participants.{weight_by_share}
use Rattle.adr_reports.proofs.on.has_weight.Goals as goal

-- of an event that is frozen
pub returns-then-branch-clause-finds : goal.returns-then-branch-clause-finds
returns-then-branch-clause-finds g c clean =
    let early : HasCleanDisk (state g.S.Store c.is_frozen.new.tx.conn.now) = omega (arith, c.has_frozen.ensures.lent.stays.crash.clean) in
    ok_then c.has_frozen.result (λ yes finds kept was.
    let p = kept.portfolio in
    let id = c.args.id.now in
    let frozen = c.in_ok-is_frozen.ensures.finds early kept was in
    let is : is_frozen p id ≡ true = sym frozen.0 ∙ c.if-branch.true in
    let found = finds kept frozen.1 in
    (found.0 ∙ sym (ap (λ (b : Bool). is_some (cond b (frozen_weight p id c.args.number) (weight_by_share p c.args.event.now (c.args.number, c.args.resource.now)))) is), found.1)) (c.has_frozen.ensures.finds clean)

-- and of one that is not
pub returns-clause-finds : goal.returns-clause-finds
returns-clause-finds g c clean =
    let early : HasCleanDisk (state g.S.Store c.is_frozen.new.tx.conn.now) = omega (arith, c.has_share.ensures.lent.stays.crash.clean) in
    ok_then c.has_share.result (λ yes finds kept was.
    let p = kept.portfolio in
    let id = c.args.id.now in
    let frozen = c.in_ok-is_frozen.ensures.finds early kept was in
    let free : is_frozen p id ≡ false = sym frozen.0 ∙ c.if-branch.false in
    let found = finds kept frozen.1 in
    (found.0 ∙ sym (ap (λ (b : Bool). is_some (cond b (frozen_weight p id c.args.number) (weight_by_share p c.args.event.now (c.args.number, c.args.resource.now)))) free), found.1)) (c.has_share.ensures.finds clean)
