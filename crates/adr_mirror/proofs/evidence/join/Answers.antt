use Rattle.std.proofs.Common.{◌≡◌, ◌+◌, ◌++◌, [], ◌∷◌, take, sym, ap, subst, ◌∙◌, arith}
use Rattle.adr_db.proofs.Common.{take_more, take_all, state, HasCleanDisk, key_of, mark_of, evidence_of, joined, lent_itself, lent_then}
use Rattle.adr_db.specs.Kept.{Keeps}
use Rattle.adr_mirror.specs.Raises.{HasRisen, with_joined}
use Rattle.adr_mirror.proofs.Rising.{none_risen, risen_more, joined_raises, joined_more}
use Rattle.adr_db.proofs.Rises.{mirror_rises}
use Rattle.adr_mirror.proofs.evidence.join.Goals as goal

pub founds-init : goal.founds-init
founds-init g c = record {
  lent = lent_itself g.S.Store _ _;
  turned = λ clean kept was. (subst (HasRisen kept.mirror kept.mirror) (sym c.new-risen.ensures) (none_risen kept.mirror), was);
}

-- one version more
pub founds-preserved : goal.founds-preserved
founds-preserved g c =
    let founds = c.args.founds.now in
    let i = c.founds.found-index in
    let f = c.found-item.result in
    let more : take (i + 1) founds ≡ take i founds ++ f ∷ [] = take_more founds i f c.founds-test.true ∙ ap (λ y. take i founds ++ y ∷ []) (sym c.found-item.is) in
    let now = state g.S.Store c.founds.tx.conn.now in
    let new = state g.S.Store c.join_one.new.tx.conn.now in
    record {
      lent = lent_then g.S.Store _ _ _ _ _ c.founds.invariant.lent c.in_ok-join_one.ensures.lent;
      turned = λ clean kept was.
          let early : HasCleanDisk now = omega (arith, c.join_one.ensures.lent.stays.crash.clean) in
          let so_far = c.founds.invariant.turned early kept was in
          let before = with_joined (evidence_of (take i founds)) kept in
          let step = c.in_ok-join_one.ensures.turns clean before so_far.1 in
          let risen = risen_more kept.mirror before.mirror (key_of f, mark_of f) (joined_raises kept.mirror (evidence_of (take i founds))) c.founds.risen (mirror_rises before now so_far.1) so_far.0 in
          let is = sym (joined_more kept.mirror (take i founds) f) in
          rw more (
            subst (λ m. HasRisen kept.mirror m c.join_one.new.risen) is (rw step.0 risen),
            subst (λ m. Keeps (record kept { mirror = m }) new) is step.1,
          );
    }

pub returns-clause-turns : goal.returns-clause-turns
returns-clause-turns g c = subst (λ l. HasCleanDisk (state g.S.Store c.founds.tx.conn.now) → (kept : _) → Keeps kept (state g.S.Store c.args.tx.now.conn.now) → HasRisen kept.mirror (joined kept.mirror (evidence_of l)) c.founds.risen × Keeps (with_joined (evidence_of l) kept) (state g.S.Store c.founds.tx.conn.now)) (take_all _ _ c.founds-test.false) c.founds.invariant.turned
