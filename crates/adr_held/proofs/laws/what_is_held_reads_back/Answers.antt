use Rattle.adr_db.proofs.Common.{state}
use Rattle.adr_held.proofs.HeldLemmas.{held_again}
use Rattle.adr_held.proofs.laws.what_is_held_reads_back.Goals as goal

pub returns : goal.returns
returns g c = held_again (state g.S.Store c.args.conn.now)
