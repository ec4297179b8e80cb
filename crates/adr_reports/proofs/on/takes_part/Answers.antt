use Rattle.std.proofs.Common.{◌≡◌, ℕ, true, false, sym, ap, ◌∙◌, arith}
use Rattle.std.specs.Prelude.{is_some}
use Rattle.adr_db.proofs.Common.{HasCleanDisk, Resource, state}
use Rattle.adr_state.specs.Participants.{weight_in}
use Rattle.adr_reports.proofs.TakesPart.{without_weight, with_weight}
use Rattle.adr_reports.proofs.on.takes_part.Goals as goal

pub returns-then-not-has-clause-finds : goal.returns-then-not-has-clause-finds
returns-then-not-has-clause-finds g c clean kept was =
    let p = kept.portfolio in
    let r : ℕ × Resource = (c.args.number, c.args.resource.now) in
    let weight = weight_in p c.args.id.now c.args.event.now r in
    let has = c.in_ok-has.ensures.finds clean kept was in
    let none : is_some weight ≡ false = sym has.0 ∙ c.if-not-has.true in
    (sym (without_weight p r weight none), has.1)

pub returns-clause-finds : goal.returns-clause-finds
returns-clause-finds g c clean kept was =
    let p = kept.portfolio in
    let r : ℕ × Resource = (c.args.number, c.args.resource.now) in
    let weight = weight_in p c.args.id.now c.args.event.now r in
    let early : HasCleanDisk (state g.S.Store c.has_weight.new.tx.conn.now) = omega (arith, c.read_ven.ensures.lent.stays.crash.clean) in
    let has = c.in_ok-has.ensures.finds early kept was in
    let some : is_some weight ≡ true = sym has.0 ∙ c.if-not-has.false in
    let ven = c.in_ok-ven.ensures.finds clean kept has.1 in
    (c.is_some.ensures ∙ ap is_some ven.0 ∙ sym (with_weight p r weight some), ven.1)
