use Rattle.std.proofs.Common.{◌≡◌, subst, arith, ◌∙◌}
use Rattle.adr_db.proofs.Common.{state, HasCleanDisk}
use Rattle.adr_db.specs.Kept.{Kept, Keeps, with_shown, with_stamps}
use Rattle.adr_kept_view.specs.Columns.{columns_of}
use Rattle.adr_kept_view.specs.Changes.{owner_in}
use Rattle.adr_upkeep.proofs.turn.put.Goals as goal

pub returns-clause-turns : goal.returns-clause-turns
returns-clause-turns g c clean kept was =
    let late : HasCleanDisk (state g.S.Store c.put_shown.new.tx.conn.now) = omega (arith, c.put_stamps.ensures.lent.stays.crash.clean) in
    let early : HasCleanDisk (state g.S.Store c.owner.new.tx.conn.now) = omega (arith, late, c.put_shown.ensures.lent.stays.crash.clean) in
    let own = c.in_ok-ven.ensures.finds early kept was in
    let shown = c.in_ok-put_shown.ensures.leaves late kept own.1 in
    let all = c.in_ok-put_stamps.ensures.leaves clean (with_shown c.in_ok-shown_key.field-0 c.in_ok-columns.columns kept) shown in
    let same : c.in_ok-columns.columns ≡ columns_of (owner_in kept.portfolio c.args.resource) c.args.shown.now =
    c.in_ok-columns.ensures
    ∙ λ i. record { program = c.args.shown.now.program; ven = own.0 i; ven_name = c.args.shown.now.ven_name; resource_name = c.args.shown.now.resource_name; body = c.requires i } in
    (own.0, subst (λ (k : Kept). Keeps k (state g.S.Store c.put_stamps.new.tx.conn.now)) (λ i. with_stamps (c.in_ok-view_key.ensures i) c.args.stamps (with_shown (c.in_ok-shown_key.ensures i) (same i) kept)) all)
