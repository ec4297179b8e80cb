use Rattle.std.proofs.Common.{◌≡◌, ◌+◌, ◌++◌, ℕ, Ok, List, drop}
use Rattle.std.specs.List.{All}
use Rattle.adr_db.proofs.Common.{state, HasCleanDisk, Refusal, LeavesLent, ViewKey}
use Rattle.adr_delivery.specs.declared.entry.Entry.{Entry}
use Rattle.adr_state.specs.declared.base.Base.{Base}
use Rattle.adr_view.specs.declared.view.Content.{Content}
use Rattle.adr_db.specs.declared.meta.Meta.{Meta}
use Rattle.adr_db.specs.Bases.{Beside}
use Rattle.adr_visit.specs.Visits.{IsAt, IsTrail}
use Rattle.adr_visit.proofs.visits.visit_each.Given as goal

-- where the visit is now, and that a trail over the items that are left is, behind what was told so far, one over all
abbrev pub invariant-items : goal.invariant-items
invariant-items g l = record {
  lent : LeavesLent g.S.Store l.fn.tx.conn l.tx.conn {T = Unit {0}} {E = Refusal} (Ok tt);
  visited : HasCleanDisk (state g.S.Store l.tx.conn.now) → (first : Meta) (owner : ℕ → ℕ) (before base : Base) (rows : List (ViewKey × Content)) (beside : Beside) (es : List Entry)
      → All (g.P.KeptUp.part.WasSo before) l.items → IsAt l.limits first owner base rows beside es l.fn.visit l.fn.meta (state g.S.Store l.fn.tx.conn.now)
      → (here : List (ViewKey × Content)) × (there : Beside) × (told : List Entry) × (many : ℕ) × (l.visit.many ≡ l.fn.visit.many + many) × IsAt l.limits first owner base here there (es ++ told) l.visit l.meta (state g.S.Store l.tx.conn.now)
      × ((last : List (ViewKey × Content)) (end : Beside) (rest : List Entry) (others : ℕ) → IsTrail g.P.KeptUp.part (g.T.Tells.told l.teller base.portfolio.subs) owner before base l.now here there (drop l.item-index l.items) last end rest others
      → IsTrail g.P.KeptUp.part (g.T.Tells.told l.teller base.portfolio.subs) owner before base l.now rows beside l.items last end (told ++ rest) (many + others));
}
