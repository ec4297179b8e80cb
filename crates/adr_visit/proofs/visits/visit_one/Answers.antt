use Rattle.std.proofs.Common.{◌≡◌, ◌+◌, [], List, length, ◌++◌, sym, ap, subst, arith, ◌∙◌}
use Rattle.std.specs.List.{flat_map}
use Rattle.std.proofs.lemmas.List.{append-nil}
use Rattle.adr_delivery.specs.declared.entry.Entry.{Entry}
use Rattle.adr_db.proofs.Common.{state, HasCleanDisk}
use Rattle.adr_db.proofs.Results.{on_then}
use Rattle.adr_kept_view.specs.Refreshed.{books_behind}
use Rattle.adr_visit.specs.Visits.{IsAt}
use Rattle.adr_visit.proofs.Visited.{none_of, visited_now}
use Rattle.adr_visit.proofs.visits.visit_one.Goals as goal

-- nothing changed
pub returns-then-is_empty-clause-visits : goal.returns-then-is_empty-clause-visits
returns-then-is_empty-clause-visits g c clean first owner before base rows beside es so_was at =
    let item = c.args.item.now in
    let told = g.T.Tells.told c.args.teller.now in
    let changes = c.in_ok-changes.changes in
    let it = visited_now g.P.KeptUp.part c.args.limits.now first owner before base rows beside es c.args.visit.now c.refresh.new.sharers c.args.meta.now c.args.now item changes (state g.S.Store c.args.tx.now.conn.now) (state g.S.Store c.refresh.new.tx.conn.now) at so_was (c.in_ok-changes.ensures.refreshes clean) in
    let none : changes ≡ [] = none_of changes (sym c.is_empty.ensures ∙ c.if-is_empty.true) in
    let entries : es ≡ es ++ flat_map (told base.portfolio.subs item) changes = sym (append-nil es) ∙ ap (λ (cs : List _). es ++ flat_map (told base.portfolio.subs item) cs) (sym none) in
    let many : c.args.visit.now.many ≡ c.args.visit.now.many + length changes = let zero : length changes ≡ 0 = ap length none in omega (arith, zero) in
    (changes, it.0, it.1, many, subst (λ (all : List Entry). IsAt c.args.limits.now first owner base (books_behind rows beside before base c.args.now (g.P.KeptUp.part.source item)).kept it.0 all (record c.args.visit.now { sharers = c.refresh.new.sharers }) c.args.meta.now (state g.S.Store c.refresh.new.tx.conn.now)) entries it.2)

pub returns-clause-visits : goal.returns-clause-visits
returns-clause-visits g c clean =
    let item = c.args.item.now in
    let changes = c.in_ok-changes.changes in
    let early : HasCleanDisk (state g.S.Store c.refresh.new.tx.conn.now) = omega (arith, clean, c.tell.ensures.lent.stays.crash.clean) in
    on_then c.tell.result (λ tells first owner before base rows beside es so_was at.
    let it = visited_now g.P.KeptUp.part c.args.limits.now first owner before base rows beside es c.args.visit.now c.refresh.new.sharers c.args.meta.now c.args.now item changes (state g.S.Store c.args.tx.now.conn.now) (state g.S.Store c.refresh.new.tx.conn.now) at so_was (c.in_ok-changes.ensures.refreshes early) in
    let so = tells first owner base (books_behind rows beside before base c.args.now (g.P.KeptUp.part.source item)).kept it.0 es it.2 in
    let told = g.T.Tells.told c.args.teller.now base.portfolio.subs item in (
      changes,
      it.0,
      it.1,
      so.0 ∙ ap (λ (cs : List _). c.args.visit.now.many + length cs) c.as_slice.ensures,
      subst (λ (cs : List _). IsAt c.args.limits.now first owner base (books_behind rows beside before base c.args.now (g.P.KeptUp.part.source item)).kept it.0 (es ++ flat_map told cs) c.tell.new.visit c.tell.new.meta (state g.S.Store c.tell.new.tx.conn.now)) c.as_slice.ensures so.1,
    )) (c.tell.ensures.tells clean)
