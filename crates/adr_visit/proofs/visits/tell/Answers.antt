use Rattle.std.proofs.Common.{◌≡◌, ℕ, List, ◌++◌, ap, subst, arith, ◌∙◌}
use Rattle.std.specs.List.{flat_map}
use Rattle.adr_subscription.specs.declared.kept_sub.Sub.{Sub}
use Rattle.adr_delivery.specs.declared.entry.Entry.{Entry}
use Rattle.adr_db.proofs.Common.{state, HasCleanDisk}
use Rattle.adr_db.proofs.Results.{on_then}
use Rattle.adr_db.specs.Bases.{kept_beside}
use Rattle.adr_room.specs.Rooms.{AreSoFar}
use Rattle.adr_visit.proofs.Hearing.{all_told}
use Rattle.adr_visit.proofs.Told.{known, still, told_at}
use Rattle.adr_visit.proofs.visits.tell.Goals as goal

pub returns-clause-tells : goal.returns-clause-tells
returns-clause-tells g c clean =
    let item = c.args.item.now in
    let told = g.T.Tells.told c.args.teller.now in
    let changes = c.args.changes.now in
    let limits = c.args.limits.now in
    let visit = c.args.visit.now in
    let numbers = c.args.meta.now in
    let those = c.read_for.new.listeners in
    let old = state g.S.Store c.args.tx.now.conn.now in
    let mid = state g.S.Store c.read_for.new.tx.conn.now in
    let early : HasCleanDisk mid = omega (arith, clean, c.add.ensures.lent.stays.crash.clean) in
    on_then c.add.result (λ adds first owner base rows beside es at.
    let finds = c.in_ok-read_for.ensures.finds early in
    let subs = known limits first owner base rows beside es visit those numbers old mid at finds in
    let entries : c.deref.result.now ≡ flat_map (told base.portfolio.subs item) changes =
    c.deref.ensures.value ∙ c.in_ok-entries.ensures ∙ ap (λ (subs : List (ℕ × Sub)). flat_map (told subs item) changes) subs ∙ all_told told those base.portfolio.subs item changes c.in_ok-read_for.ensures.heard in
    let come = adds first (kept_beside beside base) es at.waits at.drawn (still limits first owner base rows beside es visit those numbers old mid at finds) in (
      c.in_ok-visit.ensures.sum,
      told_at limits first owner base rows beside es visit those numbers old mid at finds (flat_map (told base.portfolio.subs item) changes) c.in_ok-visit.field-0 c.add.new.self c.add.new.meta (state g.S.Store c.add.new.tx.conn.now)
          (subst (λ (fs : List Entry). AreSoFar limits first (kept_beside beside base) (es ++ fs) c.add.new.self c.add.new.meta (state g.S.Store c.add.new.tx.conn.now)) entries come),
    )) (c.add.ensures.adds clean)
