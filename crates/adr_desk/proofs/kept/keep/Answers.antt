use Rattle.std.proofs.Common.{subst}
use Rattle.sqlite.specs.Held.{state}
use Rattle.adr_desk.specs.Since.{Stored, WasHeld}
use Rattle.adr_desk.proofs.Since.{is_held}
use Rattle.adr_desk.proofs.Soundness.{holds_again}
use Rattle.adr_desk.proofs.kept.keep.Goals as goal

pub returns-clause-holds : goal.returns-clause-holds
returns-clause-holds g c held was clean is_open =
    let s = state g.S.Store c.args.conn.now in
    holds_again held s (is_held held s (c.schema.ensures.live is_open).0 (subst (λ (stored : Stored). WasHeld held stored) c.made.ensures was))
