use Rattle.std.proofs.Common.{◌≡◌, Option, Some, sym, subst, arith}
use Rattle.adr_db.proofs.Common.{state, HasCleanDisk}
use Rattle.adr_db.specs.Kept.{Kept, Keeps, without_shown, without_stamps}
use Rattle.adr_kept_view.specs.declared.change.ShownChange.{ShownChange}
use Rattle.adr_kept_view.specs.Changes.{gone, kept_with}
use Rattle.adr_upkeep.proofs.turn.go.Goals as goal

pub returns-clause-turns : goal.returns-clause-turns
returns-clause-turns g c clean kept was =
    let early : HasCleanDisk (state g.S.Store c.remove_shown.new.tx.conn.now) = omega (arith, c.remove_stamps.ensures.lent.stays.crash.clean) in
    let shown = c.in_ok-remove_shown.ensures.leaves early kept was in
    let all = c.in_ok-remove_stamps.ensures.leaves clean (without_shown c.in_ok-shown_key.field-0 kept) shown in
    let is : gone c.args.resource c.args.columns.now.ven _ _ ≡ Some _ = λ i. gone c.args.resource c.args.columns.now.ven (c.in_ok-stamps.ensures.stamps i) (c.in_ok-shown.ensures.shown i) in
    let those = subst (λ (k : Kept). Keeps k (state g.S.Store c.remove_stamps.new.tx.conn.now)) (λ i. without_stamps (c.in_ok-view_key.ensures i) (without_shown (c.in_ok-shown_key.ensures i) kept)) all in
    (is, subst (λ (o : Option ShownChange). Keeps (kept_with c.args.event.now o kept) (state g.S.Store c.remove_stamps.new.tx.conn.now)) (sym is) those)
