use Rattle.std.proofs.Common.{◌≡◌, ◌+◌, ◌++◌, ◌∷◌, [], ℕ, List, length, drop, drop-cons, add-one, refl, sym, subst, arith, ◌∙◌}
use Rattle.std.specs.List.{All, flat_map}
use Rattle.std.proofs.lemmas.List.{append-nil, append_assoc, drop_all}
use Rattle.std.proofs.lemmas.List.Elements.{All-drop, All-head}
use Rattle.adr_delivery.specs.declared.entry.Entry.{Entry}
use Rattle.adr_db.proofs.Common.{state, HasCleanDisk, lent_itself, lent_then}
use Rattle.adr_kept_view.specs.Refreshed.{books_behind}
use Rattle.adr_visit.specs.Visits.{IsAt, IsTrail}
use Rattle.adr_visit.proofs.visits.visit_each.Goals as goal

pub items-init : goal.items-init
items-init g c = record {
  lent = lent_itself g.S.Store _ _;
  visited = λ clean first owner before base rows beside es were at. (
    rows,
    beside,
    [],
    0,
    omega arith,
    subst (λ (all : List Entry). IsAt c.args.limits.now first owner base rows beside all c.args.visit.now c.args.meta.now (state g.S.Store c.args.tx.now.conn.now)) (sym (append-nil es)) at,
    λ last end rest others trail.
        let none : others ≡ 0 + others = omega arith in
        subst (λ (n : ℕ). IsTrail g.P.KeptUp.part (g.T.Tells.told c.args.teller.now base.portfolio.subs) owner before base c.args.now rows beside c.args.items.now last end rest n) none trail,
  );
}

-- one item more
pub items-preserved : goal.items-preserved
items-preserved g c = record {
  lent = lent_then g.S.Store _ _ _ _ _ c.items.invariant.lent c.in_ok-visit_one.ensures.lent;
  visited = λ clean first owner before base rows beside es were at.
      let told = g.T.Tells.told c.args.teller.now base.portfolio.subs in
      let now = c.args.now in
      let items = c.args.items.now in
      let i = c.items.item-index in
      let item = c.item-item.result in
      let early : HasCleanDisk (state g.S.Store c.items.tx.conn.now) = omega (arith, c.visit_one.ensures.lent.stays.crash.clean) in
      let so = c.items.invariant.visited early first owner before base rows beside es were at in
      let left : drop i items ≡ item ∷ drop (i + 1) items = drop-cons items i item c.items-test.true ∙ λ j. sym c.item-item.is j ∷ drop (sym (add-one i) j) items in
      let one = c.in_ok-visit_one.ensures.visits clean first owner before base so.0 so.1 (es ++ so.2) (All-head (g.P.KeptUp.part.WasSo before) item (drop (i + 1) items) (subst (All (g.P.KeptUp.part.WasSo before)) left (All-drop (g.P.KeptUp.part.WasSo before) i items were))) so.5 in
      let entries = flat_map (told item) one.0 in
      let more : ℕ = length one.0 in
      let was = so.4 in
      let counted = one.3 in (
        (books_behind so.0 so.1 before base now (g.P.KeptUp.part.source item)).kept,
        one.1,
        so.2 ++ entries,
        so.3 + more,
        omega (arith, was, counted),
        subst (λ (all : List Entry). IsAt c.args.limits.now first owner base (books_behind so.0 so.1 before base now (g.P.KeptUp.part.source item)).kept one.1 all c.visit_one.new.visit c.visit_one.new.meta (state g.S.Store c.visit_one.new.tx.conn.now)) (append_assoc es so.2 entries) one.4,
        λ last end rest others trail.
            let all : so.3 + (more + others) ≡ so.3 + more + others = omega arith in
            subst (λ (n : ℕ). IsTrail g.P.KeptUp.part told owner before base now rows beside items last end ((so.2 ++ entries) ++ rest) n) all
            (subst (λ (all : List Entry). IsTrail g.P.KeptUp.part told owner before base now rows beside items last end all (so.3 + (more + others))) (sym (append_assoc so.2 entries rest))
            (so.6 last end (entries ++ rest) (more + others) (subst (λ (is : List _). IsTrail g.P.KeptUp.part told owner before base now so.0 so.1 is last end (entries ++ rest) (more + others)) (sym left) (one.0, one.1, rest, others, one.2, refl, refl, trail)))),
      );
}

pub returns-clause-visits : goal.returns-clause-visits
returns-clause-visits g c clean first owner before base rows beside es were at =
    let told = g.T.Tells.told c.args.teller.now base.portfolio.subs in
    let now = c.args.now in
    let items = c.args.items.now in
    let so = c.items.invariant.visited clean first owner before base rows beside es were at in
    let left : drop c.items.item-index items ≡ [] = drop_all c.items.item-index items (omega (arith, c.items-test.false)) in
    let trail = so.6 so.0 so.1 [] 0 (subst (λ (is : List _). IsTrail g.P.KeptUp.part told owner before base now so.0 so.1 is so.0 so.1 [] 0) (sym left) (refl, refl, refl, refl)) in
    let all : so.3 + 0 ≡ so.3 = omega arith in (
      so.0,
      so.1,
      so.2,
      so.3,
      subst (λ (n : ℕ). IsTrail g.P.KeptUp.part told owner before base now rows beside items so.0 so.1 so.2 n) all (subst (λ (es : List Entry). IsTrail g.P.KeptUp.part told owner before base now rows beside items so.0 so.1 es (so.3 + 0)) (append-nil so.2) trail),
      so.4,
      so.5,
    )
