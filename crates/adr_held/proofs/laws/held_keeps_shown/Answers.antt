use Rattle.adr_db.proofs.Common.{state}
use Rattle.adr_held.proofs.HeldLemmas.{held_keeps}
use Rattle.adr_held.proofs.laws.held_keeps_shown.Goals as goal

pub returns : goal.returns
returns g c = held_keeps (state g.S.Store c.args.conn.now)
