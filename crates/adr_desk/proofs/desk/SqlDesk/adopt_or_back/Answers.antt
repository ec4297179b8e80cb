use Rattle.std.proofs.Common.{sym, subst}
use Rattle.adr_db.proofs.Common.{state}
use Rattle.adr_held.specs.Held.{HoldsState}
use Rattle.adr_held.proofs.HeldLemmas.{held_again}
use Rattle.adr_desk.specs.Since.{Stored, WasHeld}
use Rattle.adr_desk.proofs.Since.{was_held}
use Rattle.adr_desk.proofs.desk.SqlDesk.adopt_or_back.Goals as goal

pub returns-in-Ok-clause-made : goal.returns-in-Ok-clause-made
returns-in-Ok-clause-made g c clean is_open held becomes =
    let s = state g.S.Store c.prepare.new.conn in
    let now : HoldsState held s = c.in-Ok.ensures.made clean held becomes in (
      record { clean = clean; is_open = is_open; began = ∣ (held, subst (λ (stored : Stored). WasHeld held stored) (sym c.keep-first.ensures.kept) (was_held held s now)) ∣₁ },
      held_again s held now,
    )
