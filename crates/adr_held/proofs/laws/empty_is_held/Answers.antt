use Rattle.adr_db.proofs.Common.{state}
use Rattle.adr_held.proofs.RightLemmas.{empty_held}
use Rattle.adr_held.proofs.laws.empty_is_held.Goals as goal

pub returns : goal.returns
returns g c = empty_held (state g.S.Store c.args.conn.now)
