use Rattle.std.proofs.Common.{[], ◌∷◌, sym, subst, arith}
use Rattle.std.proofs.lemmas.Grind.{fold-append}
use Rattle.adr_db.proofs.Common.{state, HasCleanDisk, lent_then}
use Rattle.adr_db.specs.Kept.{Keeps}
use Rattle.adr_outbox.proofs.dropping.remove_each.Goals as goal

-- one more is gone
pub numbers-preserved : goal.numbers-preserved
numbers-preserved g c = record {
  lent = lent_then g.S.Store _ _ _ _ _ c.numbers.invariant.lent c.in_ok-remove_entry.ensures.lent;
  gone = λ clean kept was.
      let early : HasCleanDisk (state g.S.Store c.numbers.tx.conn.now) = omega (arith, c.remove_entry.ensures.lent.stays.crash.clean) in
      subst (λ es. Keeps (record kept { entries = es }) (state g.S.Store c.remove_entry.new.tx.conn.now)) (sym (fold-append _ kept.entries c.numbers.yielded (c.in-Some.number ∷ []))) (c.in_ok-remove_entry.ensures.leaves clean _ (c.numbers.invariant.gone early kept was));
}
