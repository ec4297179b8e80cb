use Rattle.adr_db.proofs.Common.{state}
use Rattle.adr_held.proofs.HeldLemmas.{shown_held}
use Rattle.adr_held.proofs.laws.shown_is_held.Goals as goal

pub returns : goal.returns
returns g c = shown_held (state g.S.Store c.args.conn.now)
